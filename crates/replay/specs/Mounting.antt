-- Every step of a mount, on every image that is accepted: it programs a byte of the image that loses bits only, or erases a sector of it.
use Rattle.std.specs.Prelude.{ℕ, ◌+◌, ◌≤◌, ◌<◌, ◌≡◌, Bool, length, get_or, set, eqb}
use Rattle.std.proofs.Common.{arith, sym, ap, ◌∙◌, subst, inl, inr, ⊎_elim, length-set, eqb-true}
use Rattle.std.proofs.Math.Path.{refl}
use Rattle.std.proofs.Math.Bool.{true, false}
use Rattle.std.proofs.lemmas.Bool.{false≢true}
use mathlib.Core.List.{List, [], ◌∷◌, ◌++◌, map}
use Rattle.spec.specs.Step.{Image, run}
use Rattle.spec.specs.Basics.{part, keep, Each}
use Rattle.spec.specs.Geometry.{floor}
use Rattle.spec.specs.Bytes.{is_start, is_clean}
use Rattle.spec.specs.Record.{Entry, size}
use Rattle.spec.specs.Next.{next}
use Rattle.spec.specs.Chain.{Reading}
use Rattle.spec.specs.Reading.{head_clean}
use Rattle.spec.specs.Demand.{StepsSound}
use Rattle.spec.specs.Move.{start_steps, close_steps, vacated_end}
use Rattle.spec.specs.Mount.{head_low, erase_steps}
use Rattle.spec.specs.Mount.{delete_step, drop_steps}
use Rattle.spec.specs.Files.{superseded}
use Rattle.laws.specs.Length.{Good}
use Rattle.planning.specs.Repairs.{steps_1, pair_steps, steps_2}
use Rattle.planning.specs.Kinds.{Recordish}
use Rattle.planning.specs.Reads.{Reads}
use Rattle.planning.specs.First.{head_recordish, reads_head, one_of, pair_of, FirstAt, first_at}
use Rattle.planning.specs.Closing.{PairAt, pair_at, second_in, vacated_is}
use Rattle.planning.specs.Spared.{Spared, erased_spared}
use Rattle.planning.specs.Known.{Known}
use Rattle.laws.specs.Steps.{sound_append}
use Rattle.laws.specs.Lists.{each_keep}
use Rattle.replay.specs.Record.{zero_sound}
use Rattle.replay.specs.Closing.{erase_sound, start_sound, close_sound}

-- ---- repair 1

module _ (im : Image) (g : Good (length im)) (r : Reading) (a : Known im r) where
  abbrev h : ℕ
  h = r.place.head

  started_sound : (x : Entry) (es : List Entry) → r.entries ≡ x ∷ es
      → StepsSound im (erase_steps im r.place ++ start_steps h (head_low r.entries))
  started_sound x es q =
      let left : Image = run im (erase_steps im r.place) in
      let sp : Spared im left r.place = erased_spared im r.place (reads_head a.reads).1 (omega (arith, a.inside)) in
      let first : FirstAt im h r x =
      first_at (one_of (head_recordish im h (omega (arith, a.inside, a.even, g.sectors)) a.low) a.reads q) in
      let low : get_or left h 0 ≡ head_low r.entries =
      sp.high h (omega arith) first.past ∙ ap (λ (k : ℕ). get_or im k 0) (sym first.at) ∙ first.stands.low
      ∙ sym (ap head_low q) in
      sound_append im (erase_steps im r.place) (start_steps h (head_low r.entries))
      (erase_sound im r.place (omega (arith, a.inside)) (omega (arith, (reads_head a.reads).1)))
      (start_sound left h (head_low r.entries) (omega (arith, a.inside, sp.len)) low)

  pub steps_1_sound : StepsSound im (steps_1 im r)
  unfolding steps_1
  steps_1_sound = go r.entries refl (head_clean r.entries) refl where
    go : (es : List Entry) → r.entries ≡ es → (t : Bool) → head_clean r.entries ≡ t → StepsSound im (steps_1 im r)
    go es q false c = rw (steps_1, c) tt
    go [] q true c = absurd (false≢true (sym (ap head_clean q) ∙ c))
    go (x ∷ es) q true c = rw (steps_1, c) (started_sound x es q)

-- ---- repair 2

-- (c) to (f) of the first two records of a reading
module _ {im : Image} {h : ℕ} {r : Reading} {x y : Entry} (g : Good (length im)) (w : PairAt im h r x y) where
  abbrev Behind : Type 0
  Behind = (y.at ≡ h + size x) × (vacated_end (length im) y ≡ floor y.at)

  abbrev Around : Type 0
  Around = (y.at ≡ 0) × (floor h ≡ 0 → ⊥) × (vacated_end (length im) y ≡ length im)

  -- on an image of the same length where Y has this low byte
  pub pair_close : (left : Image) → length left ≡ length im → (low : ℕ) → get_or left y.at 0 ≡ low
      → StepsSound left (close_steps (length im) x y low)
  pair_close left e low q =
      ⊎_elim
      (λ (z : Behind).
      close_sound left (length im) x y low (omega (arith, w.at, w.wide)) (omega (arith, second_in g w)) q
      (inr (omega (arith, z.0, w.at)))
      (omega (arith, z.1, second_in g w)) (inr (omega (arith, z.1))))
      (λ (z : Around).
      close_sound left (length im) x y low (omega (arith, w.at, w.wide)) (omega (arith, second_in g w)) q
      (inl (first_off z.1 z.0)) (omega (arith, z.2)) (inl (sector_off z.1 z.0)))
      (vacated_is g w)
    where
      sector_off : (floor h ≡ 0 → ⊥) → y.at ≡ 0 → y.at < floor x.at
      sector_off n e = go (eqb (floor h) 0) refl where
        go : (t : Bool) → eqb (floor h) 0 ≡ t → y.at < floor x.at
        go true q = absurd (n (eqb-true (floor h) 0 q))
        go false q = omega (arith, w.at, n)

      first_off : (floor h ≡ 0 → ⊥) → y.at ≡ 0 → y.at < x.at
      first_off n e = omega (arith, sector_off n e)

  pair_sound : StepsSound im (pair_steps (length im) x y)
  unfolding pair_steps
  pair_sound = go (is_clean y.it.low) refl (is_start y.it.low) refl where
    go : (t : Bool) → is_clean y.it.low ≡ t → (u : Bool) → is_start y.it.low ≡ u → StepsSound im (pair_steps (length im) x y)
    go true c u d = rw (pair_steps, c) (pair_close im refl y.it.low w.stands.low)
    go false c true d = rw (pair_steps, c, d) (zero_sound im (x.at + 1) (omega (arith, w.at, w.wide)), tt)
    go false c false d = rw (pair_steps, c, d) tt

pub steps_2_sound : (im : Image) → Good (length im) → {h : ℕ} {r : Reading} → h ≤ length im
    → Recordish (next (part h (length im) im)) → Reads im h r → (es : List Entry) → r.entries ≡ es
    → StepsSound im (steps_2 (length im) es)
steps_2_sound im g l ish w [] q = tt
steps_2_sound im g l ish w (x ∷ []) q = tt
steps_2_sound im g l ish w (x ∷ (y ∷ es)) q = pair_sound g (pair_at l (pair_of (one_of ish w q)))

-- ---- repair 4

deletes_sound : (im : Image) (es : List Entry) → Each (λ e. e.at + 2 < length im) es → StepsSound im (map delete_step es)
deletes_sound im [] h = tt
deletes_sound im (e ∷ es) h = (
  zero_sound im (e.at + 2) h.0,
  deletes_sound (set im (e.at + 2) 0) es
      (subst (λ (n : ℕ). Each (λ f. f.at + 2 < n) es) (sym (length-set im (e.at + 2) 0)) h.1),
)

pub drop_sound : (im : Image) (es : List Entry) → Each (λ e. e.at + 2 < length im) es → StepsSound im (drop_steps es)
unfolding drop_steps
drop_sound im es h = deletes_sound im (keep (superseded es) es) (each_keep (λ (e : Entry). e.at + 2 < length im) (superseded es) es h)
