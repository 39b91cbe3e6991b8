-- Planned calls (02, K1): from the window and the slices to what the definition hands out; the door, as in Carry.
use Rattle.std.specs.Prelude.{ℕ, ◌-◌, min, ◌≡◌, List, [], length, take, Result, Ok, Err}
use Rattle.std.proofs.Common.{arith, sym, ap, ap₂, ◌∙◌}
use Rattle.std.proofs.Math.Path.{refl}
use Rattle.std.proofs.Math.Seq.{take-nil, drop-nil}
use Rattle.spec.specs.declared.Refusal.{Refusal}
use Rattle.spec.specs.declared.Space.{Space}
use Rattle.spec.specs.Refusals.{RefusalNumbers}
use Rattle.spec.specs.Step.{Image, Step}
use Rattle.spec.specs.Basics.{Answer, refuse, give, onward}
use Rattle.spec.specs.Chain.{Reading}
use Rattle.spec.specs.Numbers.{Numbers, of_write, of_put, refusal}
use Rattle.spec.specs.Door.{accepted, admitted, admitted_named}
use Rattle.spec.specs.Answers.{Plan, doing, put_into, put_plan, file_of, file_plan, removing, remove_plan, sweep_of, sweep_plan, mount_of}
use Rattle.spec.specs.Answers.{mount_plan}
use Rattle.spec.specs.Planner.{Slices, shortest, window, filled_with, Handing, hand_out, Writing, planned}
use Rattle.window.specs.declared.Emitter.{Emitter}
use Rattle.window.specs.Handed.{slices, hand_all, held, Lent, Handed}
use Rattle.window.specs.Windows.{window_handed, window_length, handed_slots}
use Rattle.calls.specs.declared.numbers.Numbers.{Numbers as Given}
use Rattle.calls.specs.Stored.{writing}
use Rattle.calls.specs.Numbers.{Converts}
use Rattle.plans.specs.declared.Planned.{Planned}

abbrev pub handing : Numbers → ℕ → Slices → Handing
handing n k s = record { numbers = n; handed = k; slices = s }

-- what a planned call answers, as the call itself does
abbrev pub answer_of : {T : Type 0} → Result (Planned T) Refusal → Result T Refusal
answer_of (Ok p) = Ok p.answer
answer_of (Err x) = Err x

-- how many steps it handed out: none where it refuses
abbrev pub handed_of : {T : Type 0} → Result (Planned T) Refusal → ℕ
handed_of (Ok p) = p.handed
handed_of (Err x) = 0

-- its numbers are those of its answer
pub converts_answer : {T : Type 0} (f : T → Given → Type 0) (w : Result (Planned T) Refusal) (n : Given)
    → Converts (λ (p : Planned T) (m : Given). f p.answer m) w n → Converts f (answer_of w) n
converts_answer f (Ok p) n e = e
converts_answer f (Err x) n e = e

-- ---- a plan's steps, handed out from the window's first on

-- how many they are
abbrev pub count_in : Emitter → ℕ
count_in r = min (shortest (held r)) (r.passed - r.first)

pub planned_out : {w r : Emitter} (p : Plan) → w.passed ≡ 0 → Handed w p.steps r
    → handing p.done (count_in r) (held r) ≡ hand_out (give p) w.first (held w)
unfolding hand_out
planned_out {w} {r} p z h =
    let n : r.passed - r.first ≡ length p.steps - w.first = omega (arith, h.count, h.same) in
    let slots : held r ≡ filled_with (window w.first (shortest (held w)) p.steps) (held w) =
    h.slots ∙ ap (λ (j : ℕ). hand_all w.first j p.steps (held w)) z ∙ window_handed w.first p.steps (held w) in
    ap₂ (handing p.done) (ap₂ min (handed_slots h) n ∙ sym (window_length w.first (shortest (held w)) p.steps)) slots

-- of a remove: the steps are all that it gives back
pub written_out : {w r : Emitter} (ss : List Step) → w.passed ≡ 0 → Handed w ss r
    → handing (of_write 0 r.passed) (count_in r) (held r) ≡ hand_out (give (doing ss)) w.first (held w)
written_out {w} {r} ss z h =
    let n : r.passed ≡ length ss = omega (arith, h.count) in
    ap (λ (k : ℕ). handing (of_write 0 k) (count_in r) (held r)) n ∙ planned_out (doing ss) z h

-- of a put: its record too
pub stored_out : {w r : Emitter} {x : Space} (ss : List Step) → w.passed ≡ 0 → Handed w ss r
    → handing (of_put 0 x r.passed) (count_in r) (held r) ≡ hand_out (give (writing x ss)) w.first (held w)
stored_out {w} {r} {x} ss z h =
    let n : r.passed ≡ length ss = omega (arith, h.count) in
    ap (λ (k : ℕ). handing (of_put 0 x k) (count_in r) (held r)) n ∙ planned_out (writing x ss) z h

-- the owner of the lent slices sees what the window holds in the end
pub lent_out : {w r : Emitter} {n : Numbers} {k : ℕ} {ks xs bs : List ℕ} {o : Handing} → Lent w r → handing n k (held r) ≡ o
    → (w.kinds.ghost_name ≡ r.kinds.ghost_name → ks ≡ r.kinds.now)
    → (w.addresses.ghost_name ≡ r.addresses.ghost_name → xs ≡ r.addresses.now)
    → (w.bytes.ghost_name ≡ r.bytes.ghost_name → bs ≡ r.bytes.now)
    → handing n k (slices ks xs bs) ≡ o
lent_out {n = n} {k = k} l e p q u =
    (λ i. handing n k (slices (p (sym l.kinds) i) (q (sym l.addresses) i) (u (sym l.bytes) i))) ∙ e

-- ---- at the door

no_window : (first m : ℕ) → window first m [] ≡ []
no_window first m = ap (take m) (drop-nil first) ∙ take-nil m

-- a refusal hands out nothing
pub refused_out : (x : RefusalNumbers) (first : ℕ) (s : Slices) → handing (refusal x) 0 s ≡ hand_out (refuse x) first s
unfolding hand_out
refused_out x first s = ap (λ (ss : List Step). handing (refusal x) (length ss) (filled_with ss s)) (sym (no_window first (shortest s)))

-- the door's refusal stands, whatever the call is
pub shut_out : (x : RefusalNumbers) (first : ℕ) (s : Slices) {a : Answer Reading} (f : Reading → Answer Plan) → refuse x ≡ a
    → handing (refusal x) 0 s ≡ hand_out (onward a f) first s
shut_out x first s f e = refused_out x first s ∙ ap (λ (y : Answer Reading). hand_out (onward y f) first s) e

-- what was read goes on to the call
pub let_out : (r : Reading) (first : ℕ) (s : Slices) {a : Answer Reading} (f : Reading → Answer Plan) → give r ≡ a
    → hand_out (f r) first s ≡ hand_out (onward a f) first s
let_out r first s f e = ap (λ (y : Answer Reading). hand_out (onward y f) first s) e

-- ---- each call is its door, and what it does behind it

module _ (image : Image) (first : ℕ) (s : Slices) where
  pub put_planned : (name content : List ℕ)
      → hand_out (onward (admitted_named name image) (put_into name content image)) first s
      ≡ planned (Writing.put name content) image first s
  unfolding put_plan
  put_planned name content = refl

  pub remove_planned : (name : List ℕ)
      → hand_out (onward (admitted_named name image) (file_of name removing)) first s ≡ planned (Writing.remove name) image first s
  unfolding remove_plan file_plan
  remove_planned name = refl

  pub sweep_planned : hand_out (onward (admitted image) (sweep_of image)) first s ≡ planned Writing.sweep image first s
  unfolding sweep_plan
  sweep_planned = refl

  pub mount_planned : hand_out (onward (accepted image) (mount_of image)) first s ≡ planned Writing.mount image first s
  unfolding mount_plan
  mount_planned = refl
