-- Lists of records: repair 3 changes no FC and no F8, repairs 1 and 2 take none away that counts. So which records repair 4 deletes can be
-- told from the first reading.
use Rattle.std.specs.Prelude.{ℕ, ◌≡◌, ◌⊎◌, Bool, ◌&&◌, ◌||◌, not, List, [], ◌∷◌, map}
use Rattle.std.proofs.Common.{arith, sym, ap, ap₂, ◌∙◌, ne_eqb}
use Rattle.std.proofs.Math.Path.{refl}
use Rattle.std.proofs.Math.Logic.{inl, inr}
use Rattle.std.proofs.Math.Bool.{true, false}
use Rattle.std.proofs.lemmas.Bool.{false≢true}
use Rattle.spec.specs.Basics.{empty, any, keep}
use Rattle.spec.specs.Bytes.{is_erased, is_reserved, is_unfinished}
use Rattle.spec.specs.Record.{Entry, name_of}
use Rattle.spec.specs.Chain.{Reading}
use Rattle.spec.specs.Files.{same_name, named, named_as, has_named, live, superseded}
use Rattle.spec.specs.Reading.{marked, marks_ok}
use Rattle.spec.specs.Mount.{delete_step, drop_steps}
use Rattle.laws.specs.Tests.{or_left}
use Rattle.laws.specs.Lists.{any_no}
use Rattle.planning.specs.Planned.{with_status, with_low, dead_if, void_by}
use Rattle.planning.specs.Planned.{voided, dropped, half_mended}
use Rattle.planning.specs.Kinds.{committed_finished, migrating_finished}
use Rattle.planning.specs.Dropped.{drop_if}
use Rattle.planning.specs.Half.{lowered, behind, half, second_dead}

-- ---- lists: repair 3 changes no FC and no F8

pub open_unnamed : (st : ℕ) (e : Entry) → (is_unfinished st ≡ false) → is_unfinished e.it.status ≡ true → named st e ≡ false
unfolding named
open_unnamed st e f h =
    ap (λ (t : Bool). t && not (empty (name_of e))) (ne_eqb e.it.status st (λ q. false≢true (sym f ∙ ap is_unfinished (sym q) ∙ h)))

pub dead_unnamed : (st b : ℕ) (e : Entry) → (st ≡ 0 → ⊥) → named st (with_low b (with_status 0x00 e)) ≡ false
unfolding named
dead_unnamed st b e n = ap (λ (t : Bool). t && not (empty (name_of e))) (ne_eqb 0 st (λ q. n (sym q)))

-- a test that no unfinished record passes, before repair 3 or after it
pub record SettledTest (p : Entry → Bool) : Type 0 where
  pub unfinished : (e : Entry) → is_unfinished e.it.status ≡ true → p e ≡ false
  pub dead : (b : ℕ) (e : Entry) → p (with_low b (with_status 0x00 e)) ≡ false

module _ (p : Entry → Bool) (w : SettledTest p) where
  -- the last record fails it before and after, or is as it was
  one_voided : (e : Entry) (t u : Bool) → is_erased e.it.status ≡ t → is_unfinished e.it.status ≡ u
      → ((p (void_by t u e) ≡ false) × (p e ≡ false)) ⊎ (void_by t u e ≡ e)
  unfolding is_unfinished
  one_voided e true u g h = inl (w.dead 0xA5 e, w.unfinished e (ap (λ (t : Bool). t || is_reserved e.it.status) g))
  one_voided e false true g h = inl (w.dead e.it.low e, w.unfinished e h)
  one_voided e false false g h = inr refl

  voided_one : (e : Entry)
      → ((p (void_by (is_erased e.it.status) (is_unfinished e.it.status) e) ≡ false) × (p e ≡ false))
      ⊎ (void_by (is_erased e.it.status) (is_unfinished e.it.status) e ≡ e)
  voided_one e = one_voided e _ _ refl refl

  any_one : (e f : Entry) → ((p f ≡ false) × (p e ≡ false)) ⊎ (f ≡ e) → any p (f ∷ []) ≡ any p (e ∷ [])
  any_one e f (inl z) = ap (λ (t : Bool). elim t [ true ↦ true | false ↦ false ]) (z.0 ∙ sym z.1)
  any_one e f (inr q) = ap (λ (g : Entry). any p (g ∷ [])) q

  keep_one : (e f : Entry) → ((p f ≡ false) × (p e ≡ false)) ⊎ (f ≡ e) → keep p (f ∷ []) ≡ keep p (e ∷ [])
  keep_one e f (inl z) =
      ap (λ (t : Bool). elim t [ true ↦ f ∷ [] | false ↦ [] ]) z.0
      ∙ sym (ap (λ (t : Bool). elim t [ true ↦ e ∷ [] | false ↦ [] ]) z.1)
  keep_one e f (inr q) = ap (λ (g : Entry). keep p (g ∷ [])) q

  pub any_voided : (es : List Entry) → any p (voided es) ≡ any p es
  any_voided [] = refl
  any_voided (e ∷ []) = any_one e (void_by (is_erased e.it.status) (is_unfinished e.it.status) e) (voided_one e)
  any_voided (e ∷ (f ∷ es)) = ap (λ (b : Bool). elim (p e) [ true ↦ true | false ↦ b ]) (any_voided (f ∷ es))

  pub keep_voided : (es : List Entry) → keep p (voided es) ≡ keep p es
  keep_voided [] = refl
  keep_voided (e ∷ []) = keep_one e (void_by (is_erased e.it.status) (is_unfinished e.it.status) e) (voided_one e)
  keep_voided (e ∷ (f ∷ es)) = ap (λ (l : List Entry). elim (p e) [ true ↦ e ∷ l | false ↦ l ]) (keep_voided (f ∷ es))

pub named_test : (f : Entry) → SettledTest (named_as 0xFC f)
named_test f =
    record {
      unfinished = λ e h. ap (λ (t : Bool). t && same_name f e) (open_unnamed 0xFC e committed_finished h);
      dead = λ b e. ap (λ (t : Bool). t && same_name f (with_status 0x00 e)) (dead_unnamed 0xFC b e (λ q. omega arith));
    }

superseded_test : (es : List Entry) → SettledTest (superseded es)
unfolding superseded
superseded_test es =
    record {
      unfinished = λ e h. ap (λ (t : Bool). t && has_named 0xFC es e) (open_unnamed 0xF8 e migrating_finished h);
      dead = λ b e. ap (λ (t : Bool). t && has_named 0xFC es (with_low b (with_status 0x00 e))) (dead_unnamed 0xF8 b e (λ q. omega arith));
    }

pub superseded_voided : (es : List Entry) (f : Entry) → superseded (voided es) f ≡ superseded es f
unfolding superseded has_named
superseded_voided es f = ap (λ (t : Bool). named 0xF8 f && t) (any_voided (named_as 0xFC f) (named_test f) es)

pub keep_like : (p q : Entry → Bool) (es : List Entry) → ((e : Entry) → p e ≡ q e) → keep p es ≡ keep q es
keep_like p q [] h = refl
keep_like p q (e ∷ es) h = ap₂ (λ (t : Bool) (l : List Entry). elim t [ true ↦ e ∷ l | false ↦ l ]) (h e) (keep_like p q es h)

pub drop_voided : (es : List Entry) → drop_steps (voided es) ≡ drop_steps es
unfolding drop_steps
drop_voided es =
    ap (map delete_step)
    (keep_like (superseded (voided es)) (superseded es) (voided es) (superseded_voided es)
    ∙ keep_voided (superseded es) (superseded_test es) es)

-- repair 4's entries
pub dropped_is : (all es : List Entry) → map (drop_if (superseded all)) es ≡ dropped all es
dropped_is all [] = refl
dropped_is all (e ∷ es) = ap (λ (l : List Entry). dead_if (superseded all e) e ∷ l) (dropped_is all es)

-- ---- which records repair 4 deletes can be told from the first reading

-- a low byte is not looked at
rival_lowered : (t : Bool) (es : List Entry) (f : Entry) → has_named 0xFC (lowered t es) f ≡ has_named 0xFC es f
unfolding has_named named
rival_lowered t [] f = refl
rival_lowered true (x ∷ es) f = refl
rival_lowered false (x ∷ es) f = refl

-- X is no rival of any record, if it is not live
rival_gone : (x : Entry) (es : List Entry) (f : Entry) → live (x ∷ es) x ≡ false → has_named 0xFC (x ∷ es) f ≡ has_named 0xFC es f
unfolding has_named live
rival_gone x es f h =
    let d : named 0xFC x ≡ false = or_left (named 0xFC x) (named 0xF8 x && not (has_named 0xFC (x ∷ es) x)) h in
    any_no (named_as 0xFC f) x es (ap (λ (t : Bool). t && same_name f x) d)

rival_behind : (es : List Entry) (f : Entry) → marks_ok es ≡ true → has_named 0xFC (behind es) f ≡ has_named 0xFC es f
unfolding behind
rival_behind [] f m = refl
rival_behind (x ∷ []) f m = refl
rival_behind (x ∷ (y ∷ es)) f m = go (marked y) refl where
  go : (t : Bool) → marked y ≡ t → has_named 0xFC (behind (x ∷ (y ∷ es))) f ≡ has_named 0xFC (x ∷ (y ∷ es)) f
  go true k = rw (behind, k) (sym (rival_gone x (y ∷ es) f (second_dead x y es m k)))
  go false k = rw (behind, k)

pub rival_half : (r : Reading) (f : Entry) → marks_ok r.entries ≡ true
    → has_named 0xFC (half_mended r).entries f ≡ has_named 0xFC r.entries f
rival_half r f m =
    let h = half r in
    ap (λ (es : List Entry). has_named 0xFC es f) h.entries ∙ rival_lowered h.t (behind r.entries) f
    ∙ rival_behind r.entries f m

-- the records that repair 4 meets are superseded as in the first reading
pub superseded_half : (r : Reading) (f : Entry) → marks_ok r.entries ≡ true
    → superseded (half_mended r).entries f ≡ superseded r.entries f
unfolding superseded
superseded_half r f m = ap (λ (t : Bool). named 0xF8 f && t) (rival_half r f m)

pub drops_planned : (r : Reading) → marks_ok r.entries ≡ true
    → drop_steps (half_mended r).entries ≡ map delete_step (keep (superseded r.entries) (half_mended r).entries)
unfolding drop_steps
drops_planned r m =
    ap (map delete_step)
    (keep_like (superseded (half_mended r).entries) (superseded r.entries) (half_mended r).entries (λ f. superseded_half r f m))
