-- What stands at the front of a list tells how long the list is.
use Rattle.std.specs.Prelude.{ℕ, ◌≤◌, ◌<◌, ◌≡◌, Bool, List, length, take, drop, ltb}
use Rattle.std.proofs.Math.Path.{refl}
use Rattle.std.proofs.Common.{sym, ◌∙◌, ltb-true, ltb-false}
use Rattle.std.proofs.Math.Bool.{true, false}
use Rattle.std.proofs.lemmas.Bool.{false≢true}
use Rattle.spec.specs.declared.Kind.{Kind}
use Rattle.spec.specs.declared.Next.{Next}
use Rattle.spec.specs.Basics.{long, blank}
use Rattle.spec.specs.Record.{size_of, name_length, data_len_of, low_of, high_of, status_of, spare_of}
use Rattle.spec.specs.Next.{next, next_at, kind, sized, torn_at, torn_wrap_at, clear_at}
use Rattle.spec.specs.Chain.{allowed}
use Rattle.laws.specs.Parts.{long_true, long_le}

-- x was found at the front of l bytes
abbrev pub Fits : Next → ℕ → Type 0
Fits (Next.Record n d) l = size_of n d ≤ l
Fits Next.Wrap l = 8 ≤ l
Fits Next.TornWrap l = 8 ≤ l
Fits Next.Clear l = 8 ≤ l
Fits Next.Over l = l < 1
Fits Next.Bad l = Unit {0}

module _ (s : List ℕ) where
  sized_fits : (n d : ℕ) (t u : Bool) → ltb n 64 ≡ t → long (size_of n d) s ≡ u → Fits (sized s n d) (length s)
  unfolding sized
  sized_fits n d true true e f = rw (sized, e, f) (long_true (size_of n d) s f)
  sized_fits n d true false e f = rw (sized, e, f) tt
  sized_fits n d false u e f = rw (sized, e) tt

  torn_fits : (t : Bool) → long 16 s ≡ t → Fits (torn_at s) (length s)
  unfolding torn_at
  torn_fits true e = rw (torn_at, e) (long_true 16 s e)
  torn_fits false e = rw (torn_at, e) tt

  module _ (l : 8 ≤ length s) where
    torn_wrap_fits : (t : Bool) → blank (drop 3 s) ≡ t → Fits (torn_wrap_at s) (length s)
    unfolding torn_wrap_at
    torn_wrap_fits true e = rw (torn_wrap_at, e) l
    torn_wrap_fits false e = rw (torn_wrap_at, e) tt

    clear_fits : (t : Bool) → blank (take 8 s) ≡ t → Fits (clear_at s) (length s)
    unfolding clear_at
    clear_fits true e = rw (clear_at, e) l
    clear_fits false e = rw (clear_at, e) tt

    next_at_fits : (k : Kind) → Fits (next_at k s) (length s)
    unfolding next_at
    next_at_fits Kind.Record = sized_fits (name_length 64 false (drop 8 s)) (data_len_of s) _ _ refl refl
    next_at_fits Kind.Reserved = sized_fits (name_length 64 true (drop 8 s)) (data_len_of s) _ _ refl refl
    next_at_fits Kind.Torn = torn_fits _ refl
    next_at_fits Kind.Marker = l
    next_at_fits Kind.TornMarker = torn_wrap_fits _ refl
    next_at_fits Kind.Clear = clear_fits _ refl
    next_at_fits Kind.Bad = tt

  empty_is : long 1 s ≡ false → length s < 1
  empty_is e = go (ltb (length s) 1) refl where
    go : (t : Bool) → ltb (length s) 1 ≡ t → length s < 1
    go true h = ltb-true (length s) 1 h
    go false h = absurd (false≢true (sym e ∙ long_le 1 s (ltb-false (length s) 1 h)))

  next_fits_by : (t u : Bool) → long 1 s ≡ t → long 8 s ≡ u → Fits (next s) (length s)
  unfolding next
  next_fits_by false u e f = rw (next, e) (empty_is e)
  next_fits_by true false e f = rw (next, e, f) tt
  next_fits_by true true e f = rw (next, e, f) (next_at_fits (long_true 8 s f) (kind (low_of s) (high_of s) (status_of s) (spare_of s)))

-- what may not stand behind an unfinished record is Bad, so what holds of Bad and of x holds of what is allowed of x
pub allowed_keeps : (P : Next → Type 0) (pending : Bool) (x : Next) → P Next.Bad → P x → P (allowed pending x)
allowed_keeps P false x b w = w
allowed_keeps P true (Next.Record n d) b w = b
allowed_keeps P true Next.Wrap b w = b
allowed_keeps P true Next.TornWrap b w = b
allowed_keeps P true Next.Clear b w = w
allowed_keeps P true Next.Over b w = w
allowed_keeps P true Next.Bad b w = w

pub allowed_fits : (pending : Bool) (s : List ℕ) → Fits (allowed pending (next s)) (length s)
allowed_fits pending s = allowed_keeps (λ (x : Next). Fits x (length s)) pending (next s) tt (next_fits_by s _ _ refl refl)
