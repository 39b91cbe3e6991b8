-- What a replay's answer says in document 02's words; a loop over a trace, turn by turn.
use Rattle.std.specs.Prelude.{Option, Some, None, Result, Ok, Err, is_err, ⊤, ℕ, suc, ◌+◌, ◌≤◌, ◌<◌, ◌≡◌, refl, Bool, List, length, drop, get_or, eqb}
use Rattle.std.proofs.Math.Numerals.{add-one}
use Rattle.std.proofs.Common.{arith, sym, ap, ◌∙◌, drop_of_length-le}
use Rattle.std.proofs.Math.Path.{ap₂}
use Rattle.std.proofs.Math.Bool.{true, false, ◌&&◌}
use borrow.Author.Tests.{eq-eqb, ne_eqb, eqb-true}
use Rattle.spec.specs.Refusals.{refusal_numbers}
use Rattle.spec.specs.declared.Refusal.{Refusal}
use Rattle.spec.specs.Step.{Image}
use Rattle.spec.specs.Geometry.{good_length}
use Rattle.spec.specs.Trace.{Replayed, replayed, fault, replay_on, equal_lengths, replayable, replay_trace}
use Rattle.laws.specs.Tests.{wrong, and_left, and_right}
use Rattle.laws.specs.Parts.{drop_next}
use Rattle.window.specs.Handed.{slices}
use Rattle.replay.specs.Entry.{carried, carried_on, carried_not}
use Rattle.replay.specs.declared.Replayed.{Replayed as Answered}
use Rattle.replay.specs.declared.Stop.{Stop}

-- "out of range, of unknown kind, or programs a bit from 0 to 1"
abbrev pub stop_number : Stop → ℕ
stop_number Stop.OutOfRange = 1
stop_number Stop.UnknownKind = 2
stop_number Stop.BitSet = 3

abbrev pub stop_told : Option Stop → ℕ
stop_told None = 0
stop_told (Some s) = stop_number s

-- of one entry
abbrev pub checked_told : Result ⊤ Stop → ℕ
checked_told (Ok u) = 0
checked_told (Err s) = stop_number s

-- an entry was carried out
pub went : (r : Result ⊤ Stop) → is_err r ≡ false → checked_told r ≡ 0
went (Ok u) e = refl
went (Err s) e = wrong (sym e)

abbrev pub told : Result Answered Refusal → Image → Replayed
told (Ok r) image = replayed 0 r.position (stop_told r.stop) image
told (Err x) image = replayed (refusal_numbers x).number 0 0 image

-- none of them is 0
pub stopped : (s : Stop) → stop_number s ≡ 0 → ⊥
stopped Stop.OutOfRange e = omega (arith, e)
stopped Stop.UnknownKind e = omega (arith, e)
stopped Stop.BitSet e = omega (arith, e)

-- the trace from its entry i on
abbrev pub replay_from : ℕ → Image → List ℕ → List ℕ → List ℕ → Replayed
replay_from i image ks xs bs = replay_on i image (drop i ks) (drop i xs) (drop i bs)

module _ (i : ℕ) (image : Image) (ks xs bs : List ℕ) where
  module _ (k : i < length ks) (x : i < length xs) (b : i < length bs) where
    abbrev which : ℕ
    which = fault image (get_or ks i 0) (get_or xs i 0) (get_or bs i 0)

    module _ (left : Image) (l : left ≡ carried image (get_or ks i 0) (get_or xs i 0) (get_or bs i 0)) where
      -- an entry that is carried out
      pub from_next : 0 ≡ which → replay_from i image ks xs bs ≡ replay_from (i + 1) left ks xs bs
      unfolding replay_on
      from_next e =
          rw (drop_next ks i k, drop_next xs i x, drop_next bs i b, replay_on, eq-eqb which 0 (sym e), add-one i, l)
          (ap (λ (n : Image). replay_on (suc i) n (drop (suc i) ks) (drop (suc i) xs) (drop (suc i) bs))
          (sym (carried_on image (get_or ks i 0) (get_or xs i 0) (get_or bs i 0) (sym e))))

      -- one that stops it
      pub from_stop : (s : Stop) → stop_number s ≡ which → replayed 0 i (stop_number s) left ≡ replay_from i image ks xs bs
      unfolding replay_on
      from_stop s e =
          let n : which ≡ 0 → ⊥ = λ q. stopped s (e ∙ q) in
          ap₂ (replayed 0 i) e (l ∙ carried_not image (get_or ks i 0) (get_or xs i 0) (get_or bs i 0) n)
          ∙ rw (drop_next ks i k, drop_next xs i x, drop_next bs i b, replay_on, ne_eqb which 0 n)

  -- the end
  pub from_end : length ks ≤ i → replay_from i image ks xs bs ≡ replayed 0 i 0 image
  unfolding replay_on
  from_end e = rw (drop_of_length-le ks e)

-- ---- whether it is refused

module _ (image : Image) (ks xs bs : List ℕ) where
  pub replayable_gives : replayable image (slices ks xs bs) ≡ true
      → (good_length (length image) ≡ true) × (length ks ≡ length xs) × (length xs ≡ length bs)
  unfolding replayable equal_lengths
  replayable_gives e =
      let k : Bool = eqb (length ks) (length xs) in
      let x : Bool = eqb (length xs) (length bs) in
      let l : (k && x) ≡ true = and_right (good_length (length image)) (k && x) e in (
        and_left (good_length (length image)) (k && x) e,
        eqb-true (length ks) (length xs) (and_left k x l),
        eqb-true (length xs) (length bs)
            (and_right k x l),
      )

  -- of a good length, and of one length
  pub trace_on : good_length (length image) ≡ true → (eqb (length ks) (length xs) && eqb (length xs) (length bs)) ≡ true
      → replay_trace image (slices ks xs bs) ≡ replay_on 0 image ks xs bs
  unfolding replay_trace replayable equal_lengths
  trace_on g e = let can : replayable image (slices ks xs bs) ≡ true = ap₂ ◌&&◌ g e in rw (replay_trace, can)

  -- a bad length; slices that are not of one length
  pub trace_short : good_length (length image) ≡ false → replay_trace image (slices ks xs bs) ≡ replayed 22 0 0 image
  unfolding replay_trace replayable
  trace_short g = rw (replay_trace, replayable, g)

  pub trace_unequal : good_length (length image) ≡ true → (eqb (length ks) (length xs) && eqb (length xs) (length bs)) ≡ false
      → replay_trace image (slices ks xs bs) ≡ replayed 22 0 0 image
  unfolding replay_trace replayable equal_lengths
  trace_unequal g e = let can : replayable image (slices ks xs bs) ≡ false = ap₂ ◌&&◌ g e in rw (replay_trace, can)
