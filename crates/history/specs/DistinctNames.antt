-- No history's ledger has a name twice; so a ledger maps the name of each of its files to that file.
use Rattle.std.specs.Prelude.{ℕ, ◌≡◌, refl, Bool, true, false, not, List, [], ◌∷◌}
use Rattle.std.proofs.Common.{sym, ◌∙◌, subst}
use Rattle.spec.specs.Step.{Image}
use Rattle.spec.specs.Basics.{Each}
use Rattle.spec.specs.Numbers.{Numbers, Outcome}
use Rattle.spec.specs.History.{Request, Call, outcome, steps_left, next_byte, File, Ledger, is_named, has, not_named, without, with_file, put_done, remove_done, fed, ledger}
use Rattle.spec.specs.Demand.{Distinct, Maps}
use Rattle.history.specs.Lists.{each_keep, each_all}
use Rattle.laws.specs.Lists.{keep_yes, keep_no, first_yes, first_no, any_none, any_none_each, each_map, each_both}
use Rattle.history.specs.Store.{same_sym}
use Rattle.history.specs.OkLaws.{same_refl}

-- ---- a name taken out

not_true : (b : Bool) → not b ≡ true → b ≡ false
not_true true h = cc
not_true false h = cc

-- the name has gone
has_without : (n : List ℕ) (l : Ledger) → has n (without n l) ≡ false
has_without n l =
    any_none (is_named n) (without n l)
    (each_keep (λ f. is_named n f ≡ false) (not_named n) l
    (each_all (λ f. not_named n f ≡ true → is_named n f ≡ false) (λ f. not_true (is_named n f)) l))

-- no other has come
still_without : (m n : List ℕ) (l : Ledger) → has m l ≡ false → has m (without n l) ≡ false
still_without m n l h =
    any_none (is_named m) (without n l)
    (each_keep (λ f. is_named m f ≡ false) (not_named n) l (each_map l (λ f e k. e) (any_none_each (is_named m) l h)))

-- the others' names are still distinct
without_distinct : (n : List ℕ) (l : Ledger) → Distinct l → Distinct (without n l)
without_distinct n [] d = tt
without_distinct n (f ∷ l) d = go (not_named n f) refl (without_distinct n l d.1)
  where
    go : (b : Bool) → not_named n f ≡ b → Distinct (without n l) → Distinct (without n (f ∷ l))
    go true e i = subst Distinct (sym (keep_yes (not_named n) f l e)) (still_without f.name n l d.0, i)
    go false e i = subst Distinct (sym (keep_no (not_named n) f l e)) i

-- ---- a call, and all calls

-- one ledger or another
either : (b : Bool) (l m : Ledger) → Distinct l → Distinct m → Distinct (elim b as (λ b. Ledger) [ true ↦ l | false ↦ m ])
either true l m d e = d
either false l m d e = e

fed_distinct : (im : Image) (r : Request) (n : Numbers) (v : ℕ) (l : Ledger) → Distinct l → Distinct (fed im r n v l)
unfolding fed
fed_distinct im (Request.put name content) n v l d =
    either (put_done im name content n v) (with_file name content l) l (has_without name l, without_distinct name l d) d
fed_distinct im (Request.remove name) n v l d = either (remove_done n v) (without name l) l (without_distinct name l d) d
fed_distinct im Request.sweep n v l d = d
fed_distinct im Request.mount n v l d = d
fed_distinct im (Request.get name) n v l d = d
fed_distinct im (Request.list index) n v l d = d

-- the names of the ledger behind all calls are distinct, if those before them are
pub ledger_distinct : (im : Image) (cs : List Call) (l : Ledger) → Distinct l → Distinct (ledger im cs l)
ledger_distinct im [] l d = d
ledger_distinct im (c ∷ cs) l d =
    let o : Outcome = outcome im c in
    let v : ℕ = next_byte (steps_left im c) o.image in
    ledger_distinct o.image cs (fed im c.request o.numbers v l) (fed_distinct im c.request o.numbers v l d)

-- ---- names to files

-- one more file, whose name the others have not
maps_more : (f : File) (l : Ledger) (g : File) → is_named f.name g ≡ false → Maps l g → Maps (f ∷ l) g
maps_more f l g e m = first_no (is_named g.name) f l (same_sym f.name g.name ∙ e) ∙ m

-- the ledger maps the name of each of its files to that file
pub maps_each : (l : Ledger) → Distinct l → Each (Maps l) l
maps_each [] d = tt
maps_each (f ∷ l) d = (
  first_yes (is_named f.name) f l (same_refl f.name),
  each_map l (λ g h. maps_more f l g h.0 h.1)
      (each_both (λ g. is_named f.name g ≡ false) (Maps l) l (any_none_each (is_named f.name) l d.0) (maps_each l d.1)),
)
