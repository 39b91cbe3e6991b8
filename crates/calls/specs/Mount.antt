-- Mount's answer in document 01's words, and how it follows from what the repairs did.
use Rattle.std.specs.Prelude.{ℕ, ◌≤◌, ◌<◌, ◌≡◌, true, length, take, Ok, Some, None}
use Rattle.std.proofs.Common.{arith, sym, ap, ap₂, ◌∙◌, le-leb}
use Rattle.std.proofs.Math.Nat.{sub-zero}
use Rattle.std.proofs.Math.Seq.{take-nil}
use Rattle.std.proofs.lemmas.Bool.{lt-leb}
use Rattle.spec.specs.declared.Report.{Report}
use Rattle.spec.specs.declared.Space.{Space}
use Rattle.spec.specs.Step.{Image, run}
use Rattle.spec.specs.Basics.{give}
use Rattle.spec.specs.Chain.{reading_from, Reading}
use Rattle.spec.specs.Files.{files}
use Rattle.spec.specs.Move.{Work, begin}
use Rattle.spec.specs.Mount.{mended, settled}
use Rattle.spec.specs.Space.{space_left}
use Rattle.spec.specs.Numbers.{Numbers, outcome_of, of_write, of_mount}
use Rattle.spec.specs.Answers.{Plan, numbers_of, carry_out, mount_work, mount_of, report_of}
use Rattle.flash.specs.Meters.{Enough}
use Rattle.reading.specs.declared.Survey.{Survey}
use Rattle.reading.specs.Read.{reading_of}
use Rattle.reading.specs.Accepted.{Accepted}
use Rattle.reading.specs.RuleLaws.{files_counted, settled_quiet}
use Rattle.recovery.specs.declared.Mended.{Mended}
use Rattle.recovery.specs.Counted.{Counted, Numbered, told_none, told_some}
use Rattle.calls.specs.declared.Mounted.{Mounted}
use Rattle.calls.specs.Numbers.{report, mounted}
use Rattle.laws.specs.Settled.{mended_none}

-- ---- the plan carried out

plan_done : (image : Image) (k : ℕ) (p : Plan) → length p.steps ≤ k → numbers_of k p ≡ p.done
unfolding numbers_of
plan_done image k p h = rw (numbers_of, le-leb (length p.steps) k h)

plan_cut : (image : Image) (k : ℕ) (w : Work) → k < length w.steps → numbers_of k (mount_work w) ≡ of_write 4 k
unfolding numbers_of
plan_cut image k w h = rw (numbers_of, lt-leb (length w.steps) k h)

carried : (image t : Image) (k : ℕ) (p : Plan) (n : Numbers) → numbers_of k p ≡ n → t ≡ run image (take k p.steps)
    → outcome_of n t ≡ carry_out image k (give p)
unfolding carry_out
carried image t k p n e b = ap₂ (λ (m : Numbers) (i : Image). record { numbers = m; image = i }) (sym e) b

module _ (image t : Image) (k : ℕ) (s : Survey) (l : Accepted image s) (r : Mended)
    (c : Counted image s.place.head (record { allowance = k; asked = 0 }) t r) where
  work_is : mended image (reading_from image s.place.head) ≡ mended image (reading_of image s)
  work_is = ap (mended image) (sym l.same)

  bytes_are : t ≡ run image (take k (mended image (reading_of image s)).steps)
  bytes_are = c.begun.bytes ∙ ap₂ (λ (n : ℕ) (w : Work). run image (take n w.steps)) (sub-zero k) work_is

  pub mount_cut : r.report ≡ None
      → outcome_of (mounted (Ok (Mounted.Cut r.meter.allowance))) t ≡ carry_out image k (mount_of image (reading_of image s))
  mount_cut e =
      let short : k < length (mended image (reading_of image s)).steps =
      omega (arith, c.begun.cut (told_none c e), ap (λ (w : Work). length w.steps) work_is) in
      carried image t k (mount_work (mended image (reading_of image s))) (of_write 4 r.meter.allowance)
      (plan_cut image k (mended image (reading_of image s)) short ∙ ap (of_write 4) (sym c.begun.same)) bytes_are

  pub mount_done : (v : Report) (x : Space) → x ≡ space_left (mended image (reading_of image s)) → r.report ≡ Some v
      → outcome_of (mounted (Ok (Mounted.Done v x r.meter.asked))) t ≡ carry_out image k (mount_of image (reading_of image s))
  mount_done v x q e =
      let h : Enough r.meter × Numbered (mended image (reading_from image s.place.head)) v = told_some c v e in
      go (mended image (reading_from image s.place.head)) h.0 h.1 (c.begun.whole h.0 ∙ omega arith) work_is
    where
      go : (w : Work) → Enough r.meter → Numbered w v → r.meter.asked ≡ length w.steps → w ≡ mended image (reading_of image s) →
          outcome_of (mounted (Ok (Mounted.Done v x r.meter.asked))) t ≡ carry_out image k (mount_of image (reading_of image s))
      go w h n count e =
          let steps : length w.steps ≡ length (mended image (reading_of image s)).steps = ap (λ (x : Work). length x.steps) e in
          carried image t k (mount_work (mended image (reading_of image s))) (of_mount 0 v x r.meter.asked)
          (plan_done image k (mount_work (mended image (reading_of image s))) (omega (arith, count, steps, c.begun.same, h))
          ∙ sym (λ i. of_mount 0 (report ((n.head ∙ ap (λ (x : Work). x.reading.place.head) e) i)
          ((n.tail ∙ ap (λ (x : Work). x.reading.place.tail) e) i)
          ((n.files ∙ ap (λ (x : Work). length (files x.reading.entries)) e) i)) (q i) ((count ∙ steps) i)))
          bytes_are

-- ---- a settled image: no step to do, so that the survey already tells what mount reports

pub mount_settled : (image : Image) (k : ℕ) (s : Survey) (x : Space) → Accepted image s → settled image (reading_of image s) ≡ true
    → x ≡ space_left (mended image (reading_of image s))
    → outcome_of (of_mount 0 (report s.place.head s.place.tail s.tally.files) x 0) image
    ≡ carry_out image k (mount_of image (reading_of image s))
mount_settled image k s x w h q =
    let r : Reading = reading_of image s in
    let p : Plan = mount_work (begin image r) in
    let is : mended image r ≡ begin image r = mended_none image r h in
    let n : numbers_of k p ≡ of_mount 0 (report_of r) (space_left (begin image r)) 0 = plan_done image k p (omega arith) in
    ap₂ (λ (f : ℕ) (y : Space). outcome_of (of_mount 0 (report s.place.head s.place.tail f) y 0) image)
    (files_counted w.surveyed.tallied (settled_quiet image r h)) (q ∙ ap space_left is)
    ∙ carried image image k p (of_mount 0 (report_of r) (space_left (begin image r)) 0) n (sym (ap (run image) (take-nil k)))
    ∙ ap (λ (v : Work). carry_out image k (give (mount_work v))) (sym is)
