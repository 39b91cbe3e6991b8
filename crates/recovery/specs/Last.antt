-- The last thing of the chain.
use Prim.Native.Nat.{ℕ, ◌+◌}
use Rattle.std.proofs.Common.{arith, sym, ap, ◌∙◌, get_or-drop, eq-eqb, ne_eqb}
use Rattle.std.specs.Prelude.{◌≡◌, Bool, List, [], ◌∷◌, ◌++◌, length, get_or}
use Rattle.std.proofs.Math.Path.{refl}
use Rattle.std.proofs.Math.Bool.{true, false}
use Rattle.spec.specs.Step.{Image, Step, shifted}
use Rattle.spec.specs.Basics.{Each}
use Rattle.spec.specs.Bytes.{is_erased, is_reserved}
use Rattle.spec.specs.Record.{Entry}
use Rattle.spec.specs.Chain.{reading_from}
use Rattle.spec.specs.Mount.{status_void_steps, torn_steps, missing_steps, reserved_steps, void_steps, last_steps, torn_wrap_steps}
use Rattle.flash.specs.declared.Meter.{Meter}
use Rattle.flash.specs.Did.{Did, did_both}
use Rattle.chain.specs.declared.Cursor.{Cursor}
use Rattle.chain.specs.declared.Spot.{Spot}
use Rattle.chain.specs.declared.Tally.{Tally}
use Rattle.reading.specs.declared.Survey.{Survey}
use Rattle.chain.specs.Rest.{entry_of, rest}
use Rattle.chain.specs.Fold.{Whole, name_length_is}
use Rattle.chain.specs.Faithful.{Stands, faithful}
use Rattle.chain.specs.Tally.{none_yet, noted, tally}
use Rattle.reading.specs.RuleLaws.{count_is}
use Rattle.reading.specs.Read.{Tallied, first_cursor}
use Rattle.reading.specs.Survey.{Seen}
use Rattle.planning.specs.Repairs.{steps_3}

-- ---- by its status

void_by : (s : Image) (e : Entry) (t u : Bool) → is_erased e.it.status ≡ t → is_reserved e.it.status ≡ u
    → void_steps s e ≡ elim t [ true ↦ shifted e.at torn_steps | false ↦ elim u [ true ↦ reserved_steps s e | false ↦ [] ] ]
unfolding void_steps
void_by s e true u p q = rw (void_steps, p)
void_by s e false true p q = rw (void_steps, p, q)
void_by s e false false p q = rw (void_steps, p, q)

module _ (s : Image) (e : Spot) where
  pub reserved_is : Whole s e → reserved_steps s (entry_of s e) ≡ missing_steps s (e.at + (8 + e.n)) ++ status_void_steps (e.at + 2) 0xFE
  reserved_is w = ap (λ (n : ℕ). missing_steps s (e.at + (8 + n)) ++ status_void_steps (e.at + 2) 0xFE) (name_length_is s e w)

  status_is : (entry_of s e).it.status ≡ get_or s (e.at + 2) 0
  status_is = get_or-drop e.at s 2 0

  pub void_torn : get_or s (e.at + 2) 0 ≡ 0xFF → void_steps s (entry_of s e) ≡ shifted e.at torn_steps
  unfolding is_erased
  void_torn h = void_by s (entry_of s e) true _ (eq-eqb (entry_of s e).it.status 0xFF (status_is ∙ h)) refl

  pub void_reserved : get_or s (e.at + 2) 0 ≡ 0xFE → void_steps s (entry_of s e) ≡ reserved_steps s (entry_of s e)
  unfolding is_erased is_reserved
  void_reserved h =
      let st : ℕ = (entry_of s e).it.status in
      let v : st ≡ 0xFE = status_is ∙ h in
      void_by s (entry_of s e) false true (ne_eqb st 0xFF (λ q. omega arith)) (eq-eqb st 0xFE v)

  pub void_finished : (get_or s (e.at + 2) 0 ≡ 0xFF → ⊥) → (get_or s (e.at + 2) 0 ≡ 0xFE → ⊥) → void_steps s (entry_of s e) ≡ []
  unfolding is_erased is_reserved
  void_finished h g =
      let st : ℕ = (entry_of s e).it.status in
      void_by s (entry_of s e) false false (ne_eqb st 0xFF (λ q. h (sym status_is ∙ q))) (ne_eqb st 0xFE (λ q. g (sym status_is ∙ q)))

-- ---- the last record, by the tally

last_is : (s : Image) (t : Tally) (e : Entry) (es : List Entry) → Each (Stands s) (e ∷ es)
    → last_steps s (e ∷ es) ≡ void_steps s (entry_of s (tally t (e ∷ es)).last)
unfolding last_steps noted
last_is s t e [] f = ap (void_steps s) (sym f.0)
last_is s t e (g ∷ es) f = last_is s (noted t e) g es f.1

no_last : (s : Image) (es : List Entry) → length es ≡ 0 → last_steps s es ≡ []
unfolding last_steps
no_last s [] h = refl
no_last s (e ∷ es) h = absurd (omega arith)

some_last : (s : Image) (es : List Entry) → (length es ≡ 0 → ⊥) → Each (Stands s) es
    → last_steps s es ≡ void_steps s (entry_of s (tally none_yet es).last)
some_last s [] h f = absurd (h refl)
some_last s (e ∷ es) h f = last_is s none_yet e es f

module _ {s : Image} {c : Cursor} {t : Tally} (w : Tallied s c t) where
  pub none_counted : t.records ≡ 0 → last_steps s (rest s c).entries ≡ []
  none_counted h = no_last s (rest s c).entries (sym (count_is w) ∙ h)

  pub last_counted : (t.records ≡ 0 → ⊥) → last_steps s (rest s c).entries ≡ void_steps s (entry_of s t.last)
  last_counted h =
      some_last s (rest s c).entries (λ q. h (count_is w ∙ q)) (faithful s c w.sound)
      ∙ ap (λ (u : Tally). void_steps s (entry_of s u.last)) (sym w.same)

-- ---- the whole repair

pub ended_last : {s t u : Image} {m q r : Meter} (h : ℕ) (v : Survey) → Seen s h v
    → Did s m (last_steps s (rest s (first_cursor s h)).entries) t q
    → Did t q (torn_wrap_steps v.ending) u r → Did s m (steps_3 s (reading_from s h)) u r
ended_last {s} {t} {u} {m} {q} {r} h v w f g =
    let all : List Step = last_steps s (rest s (first_cursor s h)).entries ++ torn_wrap_steps v.ending in
    let e : all ≡ steps_3 s (reading_from s h) =
    ap (λ (i : ℕ). last_steps s (rest s (first_cursor s i)).entries ++ torn_wrap_steps v.ending) (sym w.head)
    ∙ ap (steps_3 s) w.same in
    rw (← e) (did_both f g)
