-- START, or CLEAN, or a record's.
use Rattle.std.proofs.Common.{ℕ, ◌≡◌, ◌≢◌, refl, ◌∙◌, Bool, ◌||◌, eqb, eq-eqb, ne_eqb}
use Rattle.spec.specs.Bytes.{is_start, is_clean}
use Rattle.moving.proofs.clean.is_low.Goals as goal
use Rattle.moving.proofs.clean.is_low.Goals.{then-b-eq-START, else-b-eq-START}

is_one : (b : ℕ) → b ≡ 0 → (t : Bool) → eqb b 0 ≡ (is_start b || t)
unfolding is_start
is_one b h t = rw (eq-eqb b 0 h) refl

is_none : (b : ℕ) → b ≢ 0 → (t : Bool) → t ≡ (is_start b || t)
unfolding is_start
is_none b h t = rw (ne_eqb b 0 h) refl

pub returns-then-is_clean : goal.returns-then-is_clean
returns-then-is_clean c =
    let b = c.args.b in
    let e : c.if-b-eq-START.value ≡ (is_start b || is_clean b) = elim c.if-b-eq-START.branch [
      | then-b-eq-START w ↦ w.value-is ∙ is_one b w.if-b-eq-START.true (is_clean b)
      | else-b-eq-START w ↦ w.value-is ∙ w.is_clean.ensures ∙ is_none b w.if-b-eq-START.false (is_clean b)
    ] in
    rw (← e, c.if-is_clean.true) refl

pub returns-else-is_clean : goal.returns-else-is_clean
returns-else-is_clean c =
    let b = c.args.b in
    let e : c.if-b-eq-START.value ≡ (is_start b || is_clean b) = elim c.if-b-eq-START.branch [
      | then-b-eq-START w ↦ w.value-is ∙ is_one b w.if-b-eq-START.true (is_clean b)
      | else-b-eq-START w ↦ w.value-is ∙ w.is_clean.ensures ∙ is_none b w.if-b-eq-START.false (is_clean b)
    ] in
    rw (← e, c.if-is_clean.false) c.is_record.ensures
