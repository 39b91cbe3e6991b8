-- How many bytes are in live records after a mount, and how many in others, counted in the first reading.
use Rattle.std.specs.Prelude.{ℕ, ◌+◌, ◌≡◌, refl, Bool, true, false, not}
use Rattle.std.proofs.Common.{arith, sym, ap₂, ◌∙◌}
use Rattle.std.proofs.Math.Path.{ap}
use mathlib.Core.List.{List, [], ◌∷◌}
use Rattle.spec.specs.Basics.{keep}
use Rattle.spec.specs.Bytes.{is_erased, is_unfinished}
use Rattle.spec.specs.Record.{Entry, size}
use Rattle.spec.specs.Chain.{Reading}
use Rattle.spec.specs.Files.{live, superseded}
use Rattle.spec.specs.Reading.{marks_ok}
use Rattle.spec.specs.Space.{sizes, live_bytes, others}
use Rattle.laws.specs.Lists.{keep_yes, keep_no}
use Rattle.planning.specs.Planned.{with_low, dead_if, void_by, voided, dropped, half_mended, mended_reading}
use Rattle.planning.specs.Half.{behind, lowered, half}
use Rattle.planning.specs.Told.{live_low, keep_behind, files_left}
use Rattle.planning.specs.Space.{sizes_kept, sizes_all}

-- ---- no repair changes a size

dead_size : (t : Bool) (e : Entry) → size (dead_if t e) ≡ size e
dead_size true e = refl
dead_size false e = refl

void_size : (t u : Bool) (e : Entry) → size (void_by t u e) ≡ size e
void_size true u e = refl
void_size false u e = dead_size u e

voided_sizes : (es : List Entry) → sizes (voided es) ≡ sizes es
voided_sizes [] = refl
voided_sizes (e ∷ []) = ap (λ (n : ℕ). n + 0) (void_size (is_erased e.it.status) (is_unfinished e.it.status) e)
voided_sizes (e ∷ (f ∷ es)) = ap (λ (n : ℕ). size e + n) (voided_sizes (f ∷ es))

dropped_sizes : (all es : List Entry) → sizes (dropped all es) ≡ sizes es
dropped_sizes all [] = refl
dropped_sizes all (e ∷ es) = ap₂ ◌+◌ (dead_size (superseded all e) e) (dropped_sizes all es)

lowered_sizes : (t : Bool) (es : List Entry) → sizes (lowered t es) ≡ sizes es
lowered_sizes t [] = refl
lowered_sizes true (x ∷ es) = refl
lowered_sizes false (x ∷ es) = refl

-- nor does a low byte make a file
lowered_live : (all : List Entry) (t : Bool) (es : List Entry) → sizes (keep (live all) (lowered t es)) ≡ sizes (keep (live all) es)
lowered_live all t [] = refl
lowered_live all false (x ∷ es) = refl
lowered_live all true (x ∷ es) = go (live all x) refl where
  go : (u : Bool) → live all x ≡ u → sizes (keep (live all) (with_low 0x00 x ∷ es)) ≡ sizes (keep (live all) (x ∷ es))
  go true e = ap sizes (keep_yes (live all) (with_low 0x00 x) es (live_low all 0x00 x ∙ e)) ∙ sym (ap sizes (keep_yes (live all) x es e))
  go false e = ap sizes (keep_no (live all) (with_low 0x00 x) es (live_low all 0x00 x ∙ e)) ∙ sym (ap sizes (keep_no (live all) x es e))

-- ---- all four

module _ (r : Reading) (m : marks_ok r.entries ≡ true) where
  abbrev all : List Entry
  all = r.entries

  live_behind : live_bytes (mended_reading r).entries ≡ sizes (keep (live all) (behind all))
  live_behind =
      let h = half r in
      ap sizes (files_left r m) ∙ ap (λ (es : List Entry). sizes (keep (live all) es)) h.entries ∙ lowered_live all h.t (behind all)

  sizes_behind : sizes (mended_reading r).entries ≡ sizes (behind all)
  unfolding mended_reading
  sizes_behind =
      let h = half r in
      let es : List Entry = (half_mended r).entries in
      dropped_sizes (voided es) (voided es) ∙ voided_sizes es ∙ ap sizes h.entries ∙ lowered_sizes h.t (behind all)

  -- a mount keeps every live byte
  pub mount_live : live_bytes (mended_reading r).entries ≡ live_bytes all
  mount_live = live_behind ∙ ap sizes (keep_behind all m)

  -- and the others of the records that repair 2 leaves, live or not as in the first reading
  pub mount_dead : sizes (others (mended_reading r).entries) ≡ sizes (keep (λ e. not (live all e)) (behind all))
  mount_dead = omega (arith, live_behind, sizes_behind, sizes_all (mended_reading r).entries, sizes_kept (live all) (behind all))
