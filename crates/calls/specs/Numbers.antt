-- What the public calls' answers say in document 01's words: its number and values, for each case of each enum.
use Rattle.std.specs.Prelude.{ℕ, ◌+◌, ◌≤◌, ◌≡◌, refl, true, List, length, Result, Ok, Err}
use Rattle.std.proofs.Common.{sym, ap, ◌∙◌}
use Rattle.std.specs.Borrow.{Bor}
use Rattle.spec.specs.declared.Refusal.{Refusal}
use Rattle.spec.specs.declared.Report.{Report}
use Rattle.spec.specs.declared.Extent.{Extent}
use Rattle.spec.specs.declared.Space.{Space}
use Rattle.spec.specs.Refusals.{FaultNumbers, no_fault, fault_told, refusal_numbers}
use Rattle.spec.specs.Step.{Image}
use Rattle.spec.specs.Space.{no_space}
use Rattle.spec.specs.Numbers.{Numbers, of_write, of_put, of_mount, of_sweep, of_get, of_list, refusal, is_refusal}
use Rattle.calls.specs.declared.Written.{Written}
use Rattle.calls.specs.declared.Stored.{Stored}
use Rattle.calls.specs.declared.Mounted.{Mounted}
use Rattle.calls.specs.declared.Swept.{Swept}
use Rattle.calls.specs.declared.Listed.{Listed}
use Rattle.calls.specs.declared.numbers.Numbers.{Numbers as Given}

-- these numbers, and what is wrong with the name: put, get and remove "pass both on beside 22, in place of zeros" (K5)
abbrev pub with_fault : FaultNumbers → Numbers → Numbers
with_fault f n =
    record {
      answer = n.answer;
      name = f;
      report = n.report;
      moves = n.moves;
      extent = n.extent;
      size = n.size;
      space = n.space;
      steps = n.steps;
    }

-- a refusal
abbrev pub refused : Refusal → Numbers
refused x = refusal (refusal_numbers x)

-- format and remove: "Writing calls .. report steps used"
abbrev pub written : Result Written Refusal → Numbers
written (Ok (Written.Done k)) = of_write 0 k
written (Ok (Written.Cut k)) = of_write 4 k
written (Err x) = refused x

-- put: as these, and on success "the same record .., for the image they leave"
abbrev pub stored : Result Stored Refusal → Numbers
stored (Ok (Stored.Done x k)) = of_put 0 x k
stored (Ok (Stored.Cut k)) = of_write 4 k
stored (Err x) = refused x

-- "Mount's success gives h, T, the count of live files (of the image it leaves), steps"
abbrev pub mounted : Result Mounted Refusal → Numbers
mounted (Ok (Mounted.Done r x k)) = of_mount 0 r x k
mounted (Ok (Mounted.Cut k)) = of_write 4 k
mounted (Err x) = refused x

-- "Sweep's success gives finished moves and steps"; "4: steps used, and for sweep the finished moves"
abbrev pub swept : Result Swept Refusal → Numbers
swept (Ok (Swept.Done n x k)) = of_sweep 0 n x k
swept (Ok (Swept.Cut n k)) = of_sweep 4 n no_space k
swept (Err x) = refused x

-- "there get gives offset and length"
abbrev pub located : Result Extent Refusal → Numbers
located (Ok x) = of_get 0 x
located (Err x) = refused x

-- "List by index (chain order) gives name part and length"
abbrev pub listed : Result Listed Refusal → Numbers
listed (Ok l) = of_list 0 l.name l.size
listed (Err x) = refused x

-- ---- which case stands for an answer: a refusal has a refusal's number, so that the numbers tell the case

abbrev pub Told : {T : Type 0} → Result T Refusal → Type 0
Told (Ok x) = Unit {0}
Told (Err x) = is_refusal (refusal_numbers x).number ≡ true

abbrev pub WrittenTold : Result Written Refusal → Type 0
WrittenTold = Told

abbrev pub StoredTold : Result Stored Refusal → Type 0
StoredTold = Told

abbrev pub MountedTold : Result Mounted Refusal → Type 0
MountedTold = Told

abbrev pub SweptTold : Result Swept Refusal → Type 0
SweptTold = Told

-- no refusal has another number
pub refusal_told : (x : Refusal) → is_refusal (refusal_numbers x).number ≡ true
unfolding is_refusal
refusal_told Refusal.NoFile = refl
refusal_told Refusal.Broken = refl
refusal_told Refusal.Headless = refl
refusal_told Refusal.Unsettled = refl
refusal_told Refusal.BadLength = refl
refusal_told (Refusal.BadName f) = refl
refusal_told Refusal.NoRoom = refl

pub answer_told : {T : Type 0} (w : Result T Refusal) → Told w
answer_told (Ok x) = tt
answer_told (Err x) = refusal_told x

-- ---- parts of the image

-- a stretch that lies in the image
abbrev pub ExtentInside : Image → Extent → Type 0
ExtentInside image x = x.offset + x.length ≤ length image

-- the part r is the stretch x of the image itself: it begins so far behind the image's first byte
abbrev pub LiesAt : Bor (List ℕ) → Bor (List ℕ) → Extent → Type 0
LiesAt r image x = r.ref_ptr ≡ (image.ref_ptr.0, x.offset + image.ref_ptr.1)

-- ---- what C gets of an answer: its numbers, one by one

abbrev pub fault : ℕ → ℕ → FaultNumbers
fault reason place = record { reason = reason; place = place }

abbrev pub report : ℕ → ℕ → ℕ → Report
report head tail files = record { head = head; tail = tail; files = files }

abbrev pub space : ℕ → ℕ → ℕ → ℕ → Space
space live dead free lost = record { live = live; dead = dead; free = free; lost = lost }

abbrev pub extent : ℕ → ℕ → Extent
extent offset length = record { offset = offset; length = length }

-- the code's numbers as the definitions'
abbrev pub told : Given → Numbers
told n =
    record {
      answer = n.answer;
      name = fault_told n.fault;
      report = n.report;
      moves = n.moves;
      extent = n.extent;
      size = n.size;
      space = n.space;
      steps = n.steps;
    }

-- n are the numbers of an answer, whose own are told by f
abbrev pub Converts : {T : Type 0} → (T → Given → Type 0) → Result T Refusal → Given → Type 0
Converts f (Ok x) n = f x n
Converts f (Err x) n = told n ≡ refused x

pub converted : {T : Type 0} (f : Result T Refusal → Numbers) → ((x : Refusal) → refused x ≡ f (Err x)) → (r : Result T Refusal) (n : Given)
    → Converts (λ (x : T) (m : Given). told m ≡ f (Ok x)) r n → told n ≡ f r
converted f e (Ok x) n q = q
converted f e (Err x) n q = q ∙ e x

-- ---- the numbers of which a call speaks: the others are zeros

abbrev pub write_part : Numbers → Numbers
write_part n = with_fault n.name (of_write n.answer n.steps)

abbrev pub put_part : Numbers → Numbers
put_part n = with_fault n.name (of_put n.answer n.space n.steps)

abbrev pub mount_part : Numbers → Numbers
mount_part n = with_fault n.name (of_mount n.answer n.report n.space n.steps)

abbrev pub sweep_part : Numbers → Numbers
sweep_part n = with_fault n.name (of_sweep n.answer n.moves n.space n.steps)

abbrev pub get_part : Numbers → Numbers
get_part n = with_fault n.name (of_get n.answer n.extent)

abbrev pub list_part : Numbers → Numbers
list_part n = with_fault n.name (of_list n.answer n.extent n.size)

pub written_numbers : (w : Result Written Refusal) → write_part (written w) ≡ written w
written_numbers (Ok (Written.Done k)) = refl
written_numbers (Ok (Written.Cut k)) = refl
written_numbers (Err x) = refl

pub stored_numbers : (w : Result Stored Refusal) → put_part (stored w) ≡ stored w
stored_numbers (Ok (Stored.Done x k)) = refl
stored_numbers (Ok (Stored.Cut k)) = refl
stored_numbers (Err x) = refl

pub mounted_numbers : (w : Result Mounted Refusal) → mount_part (mounted w) ≡ mounted w
mounted_numbers (Ok (Mounted.Done r x k)) = refl
mounted_numbers (Ok (Mounted.Cut k)) = refl
mounted_numbers (Err x) = refl

pub swept_numbers : (w : Result Swept Refusal) → sweep_part (swept w) ≡ swept w
swept_numbers (Ok (Swept.Done n x k)) = refl
swept_numbers (Ok (Swept.Cut n k)) = refl
swept_numbers (Err x) = refl

pub located_numbers : (w : Result Extent Refusal) → get_part (located w) ≡ located w
located_numbers (Ok x) = refl
located_numbers (Err x) = refl

pub listed_numbers : (w : Result Listed Refusal) → list_part (listed w) ≡ listed w
listed_numbers (Ok l) = refl
listed_numbers (Err x) = refl

-- ---- with the image, or with the steps that are handed out (out)

module _ {O : Type 0} (out : Numbers → O) where
  -- the part that C gets of the numbers n of a call's answer w
  given : {T : Type 0} (f : Result T Refusal → Numbers) (part : Numbers → Numbers) → ((x : Refusal) → refused x ≡ f (Err x))
      → (w : Result T Refusal) (n : Given) {o : O} → Converts (λ (x : T) (m : Given). told m ≡ f (Ok x)) w n → part (f w) ≡ f w
      → out (f w) ≡ o → out (part (told n)) ≡ o
  given f part r w n e h q = ap (λ (x : Numbers). out (part x)) (converted f r w n e) ∙ ap out h ∙ q

  module _ {o : O} (n : Given) where
    pub written_given : (w : Result Written Refusal) → Converts (λ (x : Written) (m : Given). told m ≡ written (Ok x)) w n
        → out (written w) ≡ o → out (write_part (told n)) ≡ o
    written_given w e = given written write_part (λ x. refl) w n e (written_numbers w)

    pub stored_given : (w : Result Stored Refusal) → Converts (λ (x : Stored) (m : Given). told m ≡ stored (Ok x)) w n
        → out (stored w) ≡ o → out (put_part (told n)) ≡ o
    stored_given w e = given stored put_part (λ x. refl) w n e (stored_numbers w)

    pub mounted_given : (w : Result Mounted Refusal) → Converts (λ (x : Mounted) (m : Given). told m ≡ mounted (Ok x)) w n
        → out (mounted w) ≡ o → out (mount_part (told n)) ≡ o
    mounted_given w e = given mounted mount_part (λ x. refl) w n e (mounted_numbers w)

    pub swept_given : (w : Result Swept Refusal) → Converts (λ (x : Swept) (m : Given). told m ≡ swept (Ok x)) w n
        → out (swept w) ≡ o → out (sweep_part (told n)) ≡ o
    swept_given w e = given swept sweep_part (λ x. refl) w n e (swept_numbers w)

    pub located_given : (w : Result Extent Refusal) → Converts (λ (x : Extent) (m : Given). told m ≡ located (Ok x)) w n
        → out (located w) ≡ o → out (get_part (told n)) ≡ o
    located_given w e = given located get_part (λ x. refl) w n e (located_numbers w)

    pub listed_given : (w : Result Listed Refusal) → Converts (λ (x : Listed) (m : Given). told m ≡ listed (Ok x)) w n
        → out (listed w) ≡ o → out (list_part (told n)) ≡ o
    listed_given w e = given listed list_part (λ x. refl) w n e (listed_numbers w)

  -- a call that gives no fault back has none
  pub nameless : (name : O → FaultNumbers) → ((x : Numbers) → name (out x) ≡ x.name) → (x : Numbers) (f : FaultNumbers) {o : O}
      → out (with_fault f x) ≡ o → name o ≡ no_fault → out (with_fault no_fault x) ≡ o
  nameless name is x f e h =
      let q : f ≡ no_fault = sym (is (with_fault f x)) ∙ ap name e ∙ h in
      ap (λ (g : FaultNumbers). out (with_fault g x)) (sym q) ∙ e
