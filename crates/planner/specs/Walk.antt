-- A sweep's moves by the entry chain: one move, and what the next one goes by.
use Rattle.std.specs.Prelude.{ℕ, zero, suc, ◌≡◌, refl, Bool, true, false, List, [], ◌∷◌, ◌++◌, None, Some}
use Rattle.std.proofs.Common.{arith, sym, ap, ap₂, ◌∙◌}
use Rattle.std.proofs.Math.Option.{Option, none, some}
use Rattle.spec.specs.Step.{Step, program}
use Rattle.spec.specs.Record.{Entry, name_of, content_of, size}
use Rattle.spec.specs.declared.Place.{Place}
use Rattle.spec.specs.Files.{live}
use Rattle.spec.specs.Place.{fits, address}
use Rattle.spec.specs.Write.{put_steps}
use Rattle.spec.specs.Move.{close_steps}
use Rattle.planning.specs.Planned.{copied_place, led_place, copy_of, next_of, first_copy, handing, walked}
use Rattle.planner.specs.Answers.{Copied}
use Rattle.planner.specs.Close.{standing, close_same}

-- ---- the first copy, told by its address

abbrev pub copy_entry : Copied → Option Entry
copy_entry None = none
copy_entry (Some a) = some (standing a)

abbrev pub address_of : Option Entry → Copied
address_of none = None
address_of (some e) = Some e.at

pub address_copy : (c : Copied) → address_of (copy_entry c) ≡ c
address_copy None = refl
address_copy (Some a) = refl

abbrev bare : Option Entry → Option Entry
bare c = copy_entry (address_of c)

-- (b) to (f) of X, and the moves behind them, with the place p and the first copy c that (a) left
abbrev pub going_on : ℕ → List Entry → ℕ → Entry → List Entry → Place → Option Entry → List Step → List (List Step)
going_on k all N x xs p c ss = handing N x (next_of xs c) (λ y. walked k all (led_place p y.at) xs c) ss

-- (b) to (f), with Y at this address
abbrev pub over_steps : ℕ → Entry → ℕ → List Step
over_steps N x y = program y 0xA0 ∷ close_steps N x (standing y) 0xA0

module _ (k : ℕ) (all : List Entry) (N : ℕ) (x : Entry) (p : Place) (ss : List Step) where
  on_bare : (xs : List Entry) (c : Option Entry) → ((q : Place) → walked k all q xs c ≡ walked k all q xs (bare c))
      → going_on k all N x xs p c ss ≡ going_on k all N x xs p (bare c) ss
  on_bare [] none ih = refl
  on_bare [] (some e) ih =
      ap₂ (λ (cs : List Step) (ms : List (List Step)). (ss ++ (program e.at 0xA0 ∷ cs)) ∷ ms)
      (close_same N x e (standing e.at) 0xA0 refl) (ih (led_place p e.at))
  on_bare (y ∷ xs) c ih =
      ap (λ (ms : List (List Step)). (ss ++ (program y.at 0xA0 ∷ close_steps N x y 0xA0)) ∷ ms) (ih (led_place p y.at))

-- the first of two copies, by its address
first_bare : (c : Option Entry) (e : Entry) → bare (first_copy c e) ≡ bare (first_copy (bare c) e)
first_bare none e = refl
first_bare (some d) e = refl

-- ---- one move

module _ (k : ℕ) (all : List Entry) (p : Place) (x : Entry) (xs : List Entry) (c : Option Entry) where
  pub walked_full : live all x ≡ true → fits p (size x) ≡ false → walked (suc k) all p (x ∷ xs) c ≡ []
  unfolding walked
  walked_full l f = rw (walked, l, f)

  walked_copy : live all x ≡ true → fits p (size x) ≡ true → walked (suc k) all p (x ∷ xs) c
      ≡ going_on k all p.length x xs (copied_place p (size x)) (first_copy c (copy_of p x))
      (put_steps p (some x) (name_of x) (content_of x))
  unfolding walked
  walked_copy l f = rw (walked, l, f)

  pub walked_dead : live all x ≡ false → walked (suc k) all p (x ∷ xs) c ≡ going_on k all p.length x xs p c []
  unfolding walked
  walked_dead l = rw (walked, l)

pub walked_end : (k : ℕ) (all : List Entry) (p : Place) (c : Option Entry) → walked k all p [] c ≡ []
unfolding walked
walked_end zero all p c = refl
walked_end (suc k) all p c = refl

-- the first copy may be told by its address
walked_bare : (k : ℕ) (all : List Entry) (p : Place) (xs : List Entry) (c : Option Entry) → walked k all p xs c ≡ walked k all p xs (bare c)
unfolding walked
walked_bare zero all p xs c = refl
walked_bare (suc k) all p [] c = refl
walked_bare (suc k) all p (x ∷ xs) c = go _ _ refl refl (λ (q : Place) (d : Option Entry). walked_bare k all q xs d) where
  go : (t u : Bool) → live all x ≡ t → fits p (size x) ≡ u
      → ((q : Place) (d : Option Entry) → walked k all q xs d ≡ walked k all q xs (bare d))
      → walked (suc k) all p (x ∷ xs) c ≡ walked (suc k) all p (x ∷ xs) (bare c)
  go false u l f ih =
      walked_dead k all p x xs c l ∙ on_bare k all p.length x p [] xs c (λ q. ih q c) ∙ sym (walked_dead k all p x xs (bare c) l)
  go true false l f ih = walked_full k all p x xs c l f ∙ sym (walked_full k all p x xs (bare c) l f)
  go true true l f ih =
      let q : Place = copied_place p (size x) in
      let ss : List Step = put_steps p (some x) (name_of x) (content_of x) in
      let d : Option Entry = first_copy c (copy_of p x) in
      let e : Option Entry = first_copy (bare c) (copy_of p x) in
      walked_copy k all p x xs c l f
      ∙ on_bare k all p.length x q ss xs d (λ r. ih r d)
      ∙ ap (λ (o : Option Entry). going_on k all p.length x xs q o ss) (first_bare c (copy_of p x))
      ∙ sym (walked_copy k all p x xs (bare c) l f ∙ on_bare k all p.length x q ss xs e (λ r. ih r e))

-- a live X that fits: its copy goes to the address a, and is the first unless there is one
abbrev pub first_of : Copied → ℕ → Copied
first_of None a = Some a
first_of (Some b) a = Some b

first_is : (c : Copied) (p : Place) (x : Entry) (a : ℕ) → address p (size x) ≡ a
    → bare (first_copy (copy_entry c) (copy_of p x)) ≡ copy_entry (first_of c a)
first_is None p x a e = ap (λ (i : ℕ). some (standing i)) e
first_is (Some b) p x a e = refl

module _ (k : ℕ) (all : List Entry) (p : Place) (x : Entry) (xs : List Entry) (c : Copied) (a : ℕ) where
  pub walked_live : live all x ≡ true → fits p (size x) ≡ true → address p (size x) ≡ a → walked (suc k) all p (x ∷ xs) (copy_entry c)
      ≡ going_on k all p.length x xs (copied_place p (size x)) (copy_entry (first_of c a))
      (put_steps p (some x) (name_of x) (content_of x))
  walked_live l f e =
      let q : Place = copied_place p (size x) in
      let ss : List Step = put_steps p (some x) (name_of x) (content_of x) in
      let d : Option Entry = first_copy (copy_entry c) (copy_of p x) in
      walked_copy k all p x xs (copy_entry c) l f
      ∙ on_bare k all p.length x q ss xs d (λ r. walked_bare k all r xs d)
      ∙ ap (λ (o : Option Entry). going_on k all p.length x xs q o ss) (first_is c p x a e)

-- ---- (b) to (f)

module _ (k : ℕ) (all : List Entry) (N : ℕ) (x : Entry) (xs : List Entry) (p : Place) (c : Copied) (ss : List Step) where
  -- no Y
  pub over_none : address_of (next_of xs (copy_entry c)) ≡ None → going_on k all N x xs p (copy_entry c) ss ≡ []
  over_none e = go (next_of xs (copy_entry c)) refl e where
    go : (o : Option Entry) → next_of xs (copy_entry c) ≡ o → address_of o ≡ None → going_on k all N x xs p (copy_entry c) ss ≡ []
    go none f g = ap (λ (o : Option Entry). handing N x o (λ y. walked k all (led_place p y.at) xs (copy_entry c)) ss) f
    go (some y) f g = let z : ◌≡◌ {A = ℕ} 0 1 = cc in absurd (omega arith)

  -- Y at the address y
  pub over_at : (y : ℕ) → address_of (next_of xs (copy_entry c)) ≡ Some y
      → going_on k all N x xs p (copy_entry c) ss ≡ (ss ++ over_steps N x y) ∷ walked k all (led_place p y) xs (copy_entry c)
  over_at y e = go (next_of xs (copy_entry c)) refl e where
    go : (o : Option Entry) → next_of xs (copy_entry c) ≡ o → address_of o ≡ Some y
        → going_on k all N x xs p (copy_entry c) ss ≡ (ss ++ over_steps N x y) ∷ walked k all (led_place p y) xs (copy_entry c)
    go none f g = let z : ◌≡◌ {A = ℕ} 0 1 = cc in absurd (omega arith)
    go (some v) f g =
        let at : v.at ≡ y = cc in
        ap (λ (o : Option Entry). handing N x o (λ u. walked k all (led_place p u.at) xs (copy_entry c)) ss) f
        ∙ ap₂ (λ (i : ℕ) (cs : List Step). (ss ++ (program i 0xA0 ∷ cs)) ∷ walked k all (led_place p i) xs (copy_entry c)) at
        (close_same N x v (standing y) 0xA0 at)
