-- Two stretches that agree in what the walk looks at: the walk finds the same records in both, or meets in both what can't stand there.
use Rattle.std.specs.Prelude.{ℕ, zero, suc, ◌+◌, ◌≡◌, Bool, ◌&&◌, ◌⊎◌, List, [], ◌∷◌, length, take, drop, eqb, ltb}
use Rattle.std.proofs.Math.Path.{refl}
use Rattle.std.proofs.Math.Bool.{true, false}
use Rattle.spec.specs.declared.Next.{Next}
use Rattle.spec.specs.Basics.{long, blank, all}
use Rattle.spec.specs.Bytes.{is_unfinished}
use Rattle.spec.specs.Record.{Entry, low_of, status_of, size_of, rec_of}
use Rattle.spec.specs.Next.{sized, torn_at, torn_wrap_at, next}
use Rattle.spec.specs.Chain.{Chain, chain}
use Rattle.spec.specs.Length.{right_mark, stands, header_stands, name_read, standing_size}
use Rattle.laws.specs.Chain.{chain_record, chain_stop}
use Rattle.headers.specs.Twins.{Twins}

-- ---- what the walk finds in a stretch

-- the walk may end there, or go round
abbrev pub ends_well : Next → Bool
ends_well (Next.Record n d) = false
ends_well Next.Wrap = true
ends_well Next.TornWrap = false
ends_well Next.Clear = true
ends_well Next.Over = true
ends_well Next.Bad = false

-- every record of the stretch can stand there; first: it begins at the head
abbrev pub all_right : Bool → List Entry → Bool
all_right first [] = true
all_right first (x ∷ es) = stands first x && all (stands false) es

unfoldable pub fine : Bool → Chain → Bool
fine first c = all_right first c.entries && ends_well c.last

-- nothing fails in either, and all is alike
pub record Same (c d : Chain) : Type 0 where
  pub twins : Twins c.entries d.entries
  pub last : c.last ≡ d.last
  pub shut : (c.pending ≡ false) × (d.pending ≡ false)

abbrev pub Alike : Bool → Chain → Chain → Type 0
Alike first c d = ((fine first c ≡ false) × (fine first d ≡ false)) ⊎ Same c d

-- ---- the stretches agree, as far as the walk looks

unfoldable pub Agree : ℕ → Bool → ℕ → List ℕ → List ℕ → Type 0
Agree zero first at s t = Unit {0}
Agree (suc k) first at s t =
    elim (long 1 s) [
      | false ↦ Unit {0}
      | true ↦
          (take 8 s ≡ take 8 t)
          × elim (header_stands first s) as (λ b. Type 0) [
            | false ↦ Unit {0}
            | true ↦
                (take (length (name_read s)) (drop 8 s) ≡ take (length (name_read s)) (drop 8 t))
                × elim (eqb (standing_size first at s) 0) as (λ b. Type 0) [
                  | true ↦ Unit {0}
                  | false ↦ Agree k false (at + standing_size first at s) (drop (standing_size first at s) s)
                      (drop (standing_size first at s) t)
                ]
          ]
    ]

-- ---- a stretch that begins with what can't stand there

module _ (k : ℕ) (first : Bool) (at : ℕ) (s : List ℕ) where
  -- a record that can't
  pub record_fails : (n d : ℕ) → next s ≡ Next.Record n d → stands first (record { at = at; it = rec_of s n d }) ≡ false
      → fine first (chain (suc k) false at s) ≡ false
  unfolding fine
  record_fails n d e f = rw (chain_record k false at s n d e, fine, f)

  pub bad_fails : next s ≡ Next.Bad → fine first (chain (suc k) false at s) ≡ false
  unfolding fine
  bad_fails e = rw (chain_stop k false at s Next.Bad tt e, fine)

  pub torn_fails : next s ≡ Next.TornWrap → fine first (chain (suc k) false at s) ≡ false
  unfolding fine
  torn_fails e = rw (chain_stop k false at s Next.TornWrap tt e, fine)

  -- whatever it is, a record, a torn marker or what breaks a rule
  abbrev pub Fails_if : Next → Type 0
  Fails_if (Next.Record n d) = stands first (record { at = at; it = rec_of s n d }) ≡ false
  Fails_if Next.Wrap = ⊥
  Fails_if Next.TornWrap = Unit {0}
  Fails_if Next.Clear = ⊥
  Fails_if Next.Over = ⊥
  Fails_if Next.Bad = Unit {0}

  pub fails : (x : Next) → next s ≡ x → Fails_if x → fine first (chain (suc k) false at s) ≡ false
  fails (Next.Record n d) e f = record_fails n d e f
  fails Next.Wrap e f = absurd f
  fails Next.TornWrap e f = torn_fails e
  fails Next.Clear e f = absurd f
  fails Next.Over e f = absurd f
  fails Next.Bad e f = bad_fails e

  -- the header's magic is wrong, or its status
  pub marked_wrong : right_mark first (low_of s) ≡ false → (n d : ℕ) → stands first (record { at = at; it = rec_of s n d }) ≡ false
  unfolding stands
  marked_wrong f n d = rw (stands, f)

  pub open_wrong : is_unfinished (status_of s) ≡ true → (n d : ℕ) → stands first (record { at = at; it = rec_of s n d }) ≡ false
  unfolding stands
  open_wrong f n d = go (right_mark first (low_of s)) refl where
    go : (t : Bool) → right_mark first (low_of s) ≡ t → stands first (record { at = at; it = rec_of s n d }) ≡ false
    go true e = rw (stands, e, f)
    go false e = rw (stands, e)

  pub sized_fails : ((n d : ℕ) → stands first (record { at = at; it = rec_of s n d }) ≡ false) → (n d : ℕ) (t u : Bool) → ltb n 64 ≡ t
      → long (size_of n d) s ≡ u → Fails_if (sized s n d)
  unfolding sized
  sized_fails w n d true true e f = rw (sized, e, f) (w n d)
  sized_fails w n d true false e f = rw (sized, e, f) tt
  sized_fails w n d false u e f = rw (sized, e) tt

  pub torn_if : ((n d : ℕ) → stands first (record { at = at; it = rec_of s n d }) ≡ false) → (t : Bool) → long 16 s ≡ t
      → Fails_if (torn_at s)
  unfolding torn_at
  torn_if w true e = rw (torn_at, e) (w 0 0)
  torn_if w false e = rw (torn_at, e) tt

  pub torn_wrap_if : (t : Bool) → blank (drop 3 s) ≡ t → Fails_if (torn_wrap_at s)
  unfolding torn_wrap_at
  torn_wrap_if true e = rw (torn_wrap_at, e) tt
  torn_wrap_if false e = rw (torn_wrap_at, e) tt
