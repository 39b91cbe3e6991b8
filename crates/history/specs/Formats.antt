-- A finished format leaves a quiet image with no files: the start of every history.
use Rattle.std.specs.Prelude.{ℕ, ◌+◌, ◌-◌, ◌*◌, ◌/◌, ◌≤◌, ◌≡◌, refl, Bool, true, false, List, [], ◌∷◌, ◌++◌, map, length, drop, leb}
use Rattle.std.proofs.Common.{arith, sym, ap, ap₂, ◌∙◌, subst, append-nil, leb-true, leb-false}
use mathlib.Core.List.Permᴰ
use Rattle.std.proofs.lemmas.List.{length-replicate}
use Rattle.std.proofs.Math.Seq.{drop-length}
use Rattle.spec.specs.Refusals.{RefusalNumbers}
use Rattle.spec.specs.Step.{Image, erase, run}
use Rattle.spec.specs.Basics.{Answer, refuse, give, checked, numbered}
use Rattle.spec.specs.Geometry.{good_length, sectors}
use Rattle.spec.specs.Record.{Rec, Entry}
use Rattle.spec.specs.Files.{named}
use Rattle.spec.specs.Write.{first_steps, format_steps}
use Rattle.spec.specs.Answers.{Plan, doing, carry_out, format_plan, format}
use Rattle.spec.specs.Numbers.{Outcome}
use Rattle.history.specs.Blanks.{blanks, blank_split}
use Rattle.history.specs.Store.{alive}
use Rattle.history.specs.Lay.{onto, lay, length_lay, low_start, st_00}
use Rattle.laws.specs.Steps.{run_append}
use Rattle.laws.specs.Length.{Good, good}
use Rattle.history.specs.Markless.{markless_blanks}
use Rattle.history.specs.Erase.{erase_run, sectors_are}
use Rattle.history.specs.Seg.{seg_none}
use Rattle.history.specs.Straight.{Straight}
use Rattle.history.specs.Laid.{laid_straight, tail_clear}
use Rattle.history.specs.Kinds.{Ok, quiet, Inv}
use Rattle.history.specs.Induction.{carried_done, carried_cut}

-- ---- the bytes

-- the START record that format writes
abbrev first : Rec
first = record { low = 0; status = 0; name = []; content = [] }

abbrev fresh : ℕ → Image
fresh f = lay (first ∷ []) (blanks (8 * f))

first_written : (s : List ℕ) → run (blanks 16 ++ s) first_steps ≡ onto first s
first_written s = refl

-- all sectors erased, then the record
format_run : (raw : Image) (k f : ℕ) → length raw ≡ 4096 * k → length raw ≡ 16 + 8 * f → run raw (format_steps (length raw)) ≡ fresh f
unfolding format_steps
format_run raw k f e g =
    run_append raw (map erase (sectors 0 (length raw))) first_steps
    ∙ ap (λ (i : Image). run i first_steps)
    (ap₂ run (sym (append-nil raw)) (sectors_are k 0 (length raw) (omega arith)) ∙ erase_run k 0 [] raw [] refl (omega arith)
    ∙ ap₂ (λ (x y : List ℕ). x ++ (y ++ [])) (blank_split 16 (8 * f) (4096 * k) (omega arith)) (ap (λ (n : ℕ). drop n raw) (sym e) ∙ drop-length raw)
    ∙ append-nil (blanks 16 ++ blanks (8 * f)))
    ∙ first_written (blanks (8 * f))

-- ---- the image

no_front : ◌≡◌ {A = ℕ} 0 0x5A → ⊥
no_front e = omega arith

fresh_straight : (f : ℕ) → Straight (fresh f) 0 0 [] [] 0 (first ∷ []) seg_none (blanks (8 * f))
fresh_straight f =
    record {
      is = refl;
      at = refl;
      gap_length = refl;
      gap_markless = tt;
      lost_length = refl;
      lost_small = omega arith;
      lost_markless = tt;
      front = no_front;
      fine = (record { low_ok = low_start; status_ok = st_00; fit = record { short = omega arith; printable = tt; small = omega arith } }, tt);
    }

abbrev head : Entry
head = record { at = 0; it = first }

head_dead : alive head ≡ false
unfolding alive named
head_dead = refl

fresh_ok : Ok (head ∷ []) []
unfolding alive named
fresh_ok =
    record {
      unique = (tt, tt);
      well_named = ((λ k. let z : false ≡ true = sym head_dead ∙ k in cc), tt);
      bytes = ((λ k. let z : false ≡ true = sym head_dead ∙ k in tt), tt);
      matches = Permᴰ.nil;
    }

fresh_inv : (f : ℕ) → 1 ≤ f → good_length (16 + 8 * f) ≡ true → Inv [] (fresh f)
fresh_inv f one g =
    record {
      good = ap good_length (length_lay (first ∷ []) (blanks (8 * f)) ∙ ap (λ (n : ℕ). 16 + n) (length-replicate {A = ℕ} (8 * f) 0xFF)) ∙ g;
      kind =
          quiet 0 (8 * f) (laid_straight f (fresh_straight f) refl refl refl (length-replicate {A = ℕ} (8 * f) 0xFF) (markless_blanks f))
          (tail_clear (blanks (8 * f - 8)) (blank_split 8 (8 * f - 8) (8 * f) (omega arith)) refl refl) (refl, tt) fresh_ok;
    }

-- ---- the call

whole_inv : (raw : Image) → good_length (length raw) ≡ true → Inv [] (run raw (format_steps (length raw)))
whole_inv raw g =
    let p : Good (length raw) = good (length raw) g in
    let f : ℕ = (length raw - 16) / 8 in
    let e : length raw ≡ 4096 * (length raw / 4096) = omega (arith, p.sectors) in
    let h : length raw ≡ 16 + 8 * f = omega (arith, p.sectors, p.two) in
    subst (Inv []) (sym (format_run raw (length raw / 4096) f e h)) (fresh_inv f (omega (arith, p.two)) (ap good_length (sym h) ∙ g))

answer_of : {o u : Outcome} → o ≡ u → o.numbers.answer ≡ 0 → u.numbers.answer ≡ 0
answer_of e a = sym (ap (λ (x : Outcome). x.numbers.answer) e) ∙ a

-- answer 0: all steps are done
pub done_image : (raw : Image) (k : ℕ) (p : Plan) → (carry_out raw k (give p)).numbers.answer ≡ 0 → (carry_out raw k (give p)).image ≡ run raw p.steps
done_image raw k p e = go (leb (length p.steps) k) refl
  where
    go : (b : Bool) → leb (length p.steps) k ≡ b → (carry_out raw k (give p)).image ≡ run raw p.steps
    go true h = ap (λ (x : Outcome). x.image) (carried_done raw k p (leb-true (length p.steps) k h))
    go false h = absurd (let z : ◌≡◌ {A = ℕ} 4 0 = answer_of (carried_cut raw k p (leb-false (length p.steps) k h)) e in omega arith)

pub refused : (raw : Image) (k : ℕ) (x : RefusalNumbers) → (carry_out raw k (refuse x)).numbers.answer ≡ x.number
unfolding carry_out
refused raw k x = refl

plan_is : (raw : Image) (b : Bool) → good_length (length raw) ≡ b → format_plan raw ≡ checked b (numbered 22) (give (doing (format_steps (length raw))))
unfolding format_plan
plan_is raw b e = ap (λ (c : Bool). checked c (numbered 22) (give (doing (format_steps (length raw))))) e

-- the start of every history
pub formatted : (raw : Image) (k : ℕ) → (format raw k).numbers.answer ≡ 0 → Inv [] (format raw k).image
formatted raw k e = go (good_length (length raw)) refl
  where
    at : (p : Answer Plan) → format_plan raw ≡ p → (carry_out raw k p).numbers.answer ≡ 0
    at p i = answer_of (ap (carry_out raw k) i) e

    go : (b : Bool) → good_length (length raw) ≡ b → Inv [] (format raw k).image
    go true g =
        let P : Plan = doing (format_steps (length raw)) in
        let i : format_plan raw ≡ give P = plan_is raw true g in
        subst (Inv []) (sym (ap (λ (x : Answer Plan). (carry_out raw k x).image) i ∙ done_image raw k P (at (give P) i))) (whole_inv raw g)
    go false g = absurd (let z : ◌≡◌ {A = ℕ} 22 0 = sym (refused raw k (numbered 22)) ∙ at (refuse (numbered 22))
        (plan_is raw false g) in omega arith)
