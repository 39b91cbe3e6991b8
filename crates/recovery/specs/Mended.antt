-- The four repairs in their order.
use Rattle.std.specs.Prelude.{ℕ, ◌≤◌, ◌≡◌, refl, ◌⊎◌, Bool, true, false, List, [], ◌∷◌, length}
use Rattle.std.proofs.Common.{sym, ap, ap₂, ◌∙◌, inl, inr}
use Rattle.spec.specs.Step.{Image}
use Rattle.spec.specs.Basics.{empty}
use Rattle.spec.specs.Bytes.{is_start, is_clean}
use Rattle.spec.specs.Record.{Entry}
use Rattle.spec.specs.Chain.{Reading, reading_from}
use Rattle.spec.specs.Move.{Work, begin, after}
use Rattle.spec.specs.Mount.{repair_1, repair_2_on, repair_3, drop_steps, repair_4, mended}
use Rattle.flash.specs.declared.Meter.{Meter}
use Rattle.flash.specs.Did.{Did}
use Rattle.flash.specs.Meters.{Enough, UsedUp}
use Rattle.chain.specs.declared.Item.{Item}
use Rattle.chain.specs.Rest.{rest}
use Rattle.reading.specs.Bridge.{shown, reading_is}
use Rattle.laws.specs.Settled.{close_filled}
use Rattle.reading.specs.Read.{first_cursor}
use Rattle.planning.specs.Repairs.{steps_1, pair_steps, pair_head, steps_2, head_2, steps_3}
use Rattle.planning.specs.Repairs.{repair_1_is, repair_2_is, repair_3_is, repair_4_is}
use Rattle.recovery.specs.Pair.{MoveFinished}
use Rattle.recovery.specs.Mending.{Mending, mending_more, mending_stop}

-- ---- the place of a reading

module _ (image : Image) (h : ℕ) where
  shown_head : (es : List Entry) (x : Item) → (shown image (length image) h es x).place.head ≡ h
  shown_head es (Item.Record e c) = refl
  shown_head es (Item.End t w) = refl
  shown_head es (Item.TornWrap t) = refl
  shown_head es (Item.Broken t w) = refl

  shown_length : (es : List Entry) (x : Item) → (shown image (length image) h es x).place.length ≡ length image
  shown_length es (Item.Record e c) = refl
  shown_length es (Item.End t w) = refl
  shown_length es (Item.TornWrap t) = refl
  shown_length es (Item.Broken t w) = refl

  module _ (l : h ≤ length image) where
    pub place_head : (reading_from image h).place.head ≡ h
    place_head =
        ap (λ (r : Reading). r.place.head) (sym (reading_is image h l))
        ∙ shown_head (rest image (first_cursor image h)).entries (rest image (first_cursor image h)).ending

    pub place_length : (reading_from image h).place.length ≡ length image
    place_length =
        ap (λ (r : Reading). r.place.length) (sym (reading_is image h l))
        ∙ shown_length (rest image (first_cursor image h)).entries (rest image (first_cursor image h)).ending

-- ---- repair 2 leaves another head only with a step

pair_step_or_same : (N h : ℕ) (x y : Entry) (t u : Bool) → is_clean y.it.low ≡ t → is_start y.it.low ≡ u
    → (empty (pair_steps N x y) ≡ false) ⊎ (pair_head h y ≡ h)
unfolding pair_steps pair_head
pair_step_or_same N h x y true u e f = inl (rw (pair_steps, e) (close_filled N x y y.it.low))
pair_step_or_same N h x y false true e f = inl (rw (pair_steps, e, f))
pair_step_or_same N h x y false false e f = inr (rw (pair_head, e, f))

step_or_same : (N h : ℕ) (es : List Entry) → (empty (steps_2 N es) ≡ false) ⊎ (head_2 h es ≡ h)
step_or_same N h [] = inr refl
step_or_same N h (x ∷ []) = inr refl
step_or_same N h (x ∷ (y ∷ es)) = pair_step_or_same N h x y _ _ refl refl

-- ---- each repair, done or left undone

module _ {s t : Image} {m r : Meter} {w : Work} {h : ℕ} (v : Mending s m w t h r) where
  head_is : Enough r → h ≤ length t → w.reading.place.head ≡ h
  head_is l i = ap (λ (x : Reading). x.place.head) (v.reading l) ∙ place_head t h i

  module _ {u : Image} {q : Meter} (l : Enough r) (i : h ≤ length t) where
    pub repaired_1 : Did t r (steps_1 t (reading_from t h)) u q → Mending s m (repair_1 w) u h q
    repaired_1 d =
        rw (repair_1_is w ∙ ap (after w (steps_1 w.image w.reading)) (head_is l i))
        (mending_more v (steps_1 w.image w.reading) h l (rw (ap₂ steps_1 (v.image l) (v.reading l)) d) (inr refl))

    pub repaired_3 : Did t r (steps_3 t (reading_from t h)) u q → Mending s m (repair_3 w) u h q
    repaired_3 d =
        rw (repair_3_is w ∙ ap (after w (steps_3 w.image w.reading)) (head_is l i))
        (mending_more v (steps_3 w.image w.reading) h l (rw (ap₂ steps_3 (v.image l) (v.reading l)) d) (inr refl))

    pub repaired_4 : Did t r (drop_steps (reading_from t h).entries) u q → Mending s m (repair_4 w) u h q
    repaired_4 d =
        rw (repair_4_is w ∙ ap (after w (drop_steps w.reading.entries)) (head_is l i))
        (mending_more v (drop_steps w.reading.entries) h l (rw (ap (λ (x : Reading). drop_steps x.entries) (v.reading l)) d)
        (inr refl))

    pub repaired_2 : (k : ℕ) → MoveFinished t h r u k q → Mending s m (repair_2_on w) u k q
    repaired_2 k d =
        let N : ℕ = w.reading.place.length in
        let es : List Entry = w.reading.entries in
        let n : N ≡ length t = ap (λ (x : Reading). x.place.length) (v.reading l) ∙ place_length t h i in
        let e : es ≡ (reading_from t h).entries = ap (λ (x : Reading). x.entries) (v.reading l) in
        let a : head_2 h es ≡ k = ap (head_2 h) e ∙ sym d.head_is in
        rw (repair_2_is w h es, a)
        (mending_more v (steps_2 N es) k l (rw (ap₂ steps_2 n e) d.did) (rw (← a) (step_or_same N h es)))

  module _ (l : UsedUp r) (j : ℕ) where
    pub skipped_2 : Mending s m (repair_2_on w) t j r
    skipped_2 =
        rw (repair_2_is w h w.reading.entries)
        (mending_stop v (steps_2 w.reading.place.length w.reading.entries) (head_2 h w.reading.entries) j l)

    pub skipped_3 : Mending s m (repair_3 w) t j r
    skipped_3 = rw (repair_3_is w) (mending_stop v (steps_3 w.image w.reading) w.reading.place.head j l)

    pub skipped_4 : Mending s m (repair_4 w) t j r
    skipped_4 = rw (repair_4_is w) (mending_stop v (drop_steps w.reading.entries) w.reading.place.head j l)

-- ---- all four

pub record Mends (s : Image) (h : ℕ) (m : Meter) (t : Image) (k : ℕ) (r : Meter) : Type 0 where
  pub mending : Mending s m (mended s (reading_from s h)) t k r

pub all_four : {s t : Image} {h k : ℕ} {m r : Meter}
    → Mending s m (repair_4 (repair_3 (repair_2_on (repair_1 (begin s (reading_from s h)))))) t k r
    → Mends s h m t k r
unfolding mended
all_four v = record { mending = v }
