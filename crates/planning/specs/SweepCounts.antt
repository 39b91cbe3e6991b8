-- How many bytes are in live records after a sweep, and how many in others, counted in the first reading.
use Rattle.std.specs.Prelude.{ℕ, zero, suc, ◌+◌, min, ◌≡◌, Bool, ◌&&◌, ◌||◌, length, take, drop, eqb}
use Rattle.std.proofs.Common.{arith, sym, ap₂, ◌∙◌, subst, take-append-drop}
use Rattle.std.proofs.Math.Path.{refl, ap}
use Rattle.std.proofs.Math.Bool.{true, false, not}
use Rattle.std.proofs.lemmas.Bool.{false≢true}
use mathlib.Core.List.{List, [], ◌∷◌, ◌++◌}
use Rattle.spec.specs.declared.Place.{Place}
use Rattle.spec.specs.declared.Ending.{Ending}
use Rattle.spec.specs.Step.{Image}
use Rattle.spec.specs.Basics.{give, keep, empty, Each}
use Rattle.spec.specs.Geometry.{good_length}
use Rattle.spec.specs.Record.{Entry, name_of}
use Rattle.spec.specs.Chain.{Reading}
use Rattle.spec.specs.Files.{named, named_as, same_name, has_named, live}
use Rattle.spec.specs.Sweep.{at_end, stuck, sweep_moves}
use Rattle.spec.specs.Door.{settled_reading}
use Rattle.spec.specs.Space.{sizes, live_bytes, others}
use Rattle.laws.specs.Tests.{not_both, and_no}
use Rattle.laws.specs.Lists.{any_no, each_append}
use Rattle.planning.specs.Planned.{with_status, with_low, copy_of, copied, after_copy, handed, moved_reading, planned, planned_moves}
use Rattle.planning.specs.Moves.{sweep_as_planned}
use Rattle.planning.specs.Lone.{any_both, each_zip, Unrivalled, Apart, unrivalled_rest}
use Rattle.planning.specs.Spaces.{swept_reading}
use Rattle.planning.specs.Filed.{filed, unfiled, Plain, live_filed, sizes_same, each_live, each_not, each_take, plain_live}
use Rattle.planning.specs.Filed.{plain_dead}
use Rattle.planning.specs.Filed.{kept_yes, kept_no, kept_both, kept_last, settled_plain}

-- ---- the head goes on

-- with the first one START
abbrev start_on : List Entry → List Entry
start_on [] = []
start_on (y ∷ us) = with_low 0x00 y ∷ us

plain_start : (ys : List Entry) → Plain ys → Plain (start_on ys)
unfolding named has_named
plain_start [] w = w
plain_start (y ∷ us) w = record { rest = w.rest; apart = w.apart }

-- neither test looks at the low byte
start_same : (p : Entry → Bool) (y : Entry) (us : List Entry) → p (with_low 0x00 y) ≡ p y → sizes (keep p (with_low 0x00 y ∷ us))
    ≡ sizes (keep p (y ∷ us))
start_same p y us h = go (p y) refl where
  go : (t : Bool) → p y ≡ t → sizes (keep p (with_low 0x00 y ∷ us)) ≡ sizes (keep p (y ∷ us))
  go true q = kept_yes p (with_low 0x00 y) us (h ∙ q) ∙ sym (kept_yes p y us q)
  go false q = kept_no p (with_low 0x00 y) us (h ∙ q) ∙ sym (kept_no p y us q)

filed_low : (y : Entry) → filed (with_low 0x00 y) ≡ filed y
unfolding named
filed_low y = refl

start_filed : (ys : List Entry) → sizes (keep filed (start_on ys)) ≡ sizes (keep filed ys)
start_filed [] = refl
start_filed (y ∷ us) = start_same filed y us (filed_low y)

start_unfiled : (ys : List Entry) → sizes (keep unfiled (start_on ys)) ≡ sizes (keep unfiled ys)
start_unfiled [] = refl
start_unfiled (y ∷ us) = start_same unfiled y us (ap not (filed_low y))

start_part : (j : ℕ) (ys : List Entry) → sizes (keep unfiled (take j (start_on ys))) ≡ sizes (keep unfiled (take j ys))
start_part zero ys = refl
start_part (suc j) [] = refl
start_part (suc j) (y ∷ us) = start_same unfiled y (take j us) (ap not (filed_low y))

-- ---- a copy at the end

-- a file's copy is a file, and is FC
module _ (p : Place) (x : Entry) (f : filed x ≡ true) where
  filed_name : not (empty (name_of x)) ≡ true
  unfolding named
  filed_name = go _ refl where
    go : (t : Bool) → not (empty (name_of x)) ≡ t → not (empty (name_of x)) ≡ true
    go true e = e
    go false e = absurd (false≢true (sym (ap₂ (λ (a b : Bool). a || b) (no_name 0xFC e) (no_name 0xF8 e)) ∙ f)) where
      and_off : (t : Bool) → (t && false) ≡ false
      and_off true = refl
      and_off false = refl

      no_name : (st : ℕ) → not (empty (name_of x)) ≡ false → named st x ≡ false
      no_name st e = ap (λ (t : Bool). eqb x.it.status st && t) e ∙ and_off (eqb x.it.status st)

  copy_filed : named 0xFC (copy_of p x) ≡ true
  unfolding named
  copy_filed = filed_name

copy_settled : (p : Place) (x : Entry) → named 0xF8 (copy_of p x) ≡ false
unfolding named
copy_settled p x = refl

module _ (c : Entry) (n : named 0xF8 c ≡ false) where
  -- no earlier record minds it
  apart_last : (es : List Entry) → Apart es → Apart (es ++ (c ∷ []))
  apart_last [] w = (tt, tt)
  apart_last (e ∷ es) w = (
    each_append (λ y. filed e ≡ true → named 0xF8 y ≡ true → same_name y e ≡ false) es (c ∷ []) w.0
        (λ a b. absurd (not_both (named 0xF8 c) n b), tt),
    apart_last es w.1,
  )

  plain_last : (x : Entry) (es : List Entry) → filed x ≡ true → ((y : Entry) → same_name y c ≡ same_name y x) → Plain (x ∷ es)
      → Plain (es ++ (c ∷ []))
  unfolding has_named
  plain_last x es f s w =
      let all : List Entry = es ++ (c ∷ []) in
      let unrivalled : (y : Entry) → Unrivalled es y → (named 0xF8 y ≡ true → same_name y x ≡ false) → Unrivalled all y =
      λ y u a h.
      any_both (named_as 0xFC y) es (c ∷ []) (u h)
      (any_no (named_as 0xFC y) c [] (and_no (named 0xFC c) (same_name y c) (λ q. s y ∙ a h))) in
      record {
        rest =
            each_append (Unrivalled all) es (c ∷ [])
            (each_zip (Unrivalled es) (λ y. filed x ≡ true → named 0xF8 y ≡ true → same_name y x ≡ false) (Unrivalled all) es
            (λ y u a. unrivalled y u (λ h. a f h)) (unrivalled_rest x es w.rest.1) w.apart.0)
            (λ h. absurd (not_both (named 0xF8 c) n h), tt);
        apart = apart_last es w.apart.1;
      }

-- ---- one move

-- M is what is left of x ∷ es
record Onward (x : Entry) (es M : List Entry) : Type 0 where
  plain : Plain M
  live : sizes (keep filed M) ≡ sizes (keep filed (x ∷ es))
  dead : sizes (keep unfiled (x ∷ [])) + sizes (keep unfiled M) ≡ sizes (keep unfiled (x ∷ es))
  part : (j : ℕ) → sizes (keep unfiled (x ∷ [])) + sizes (keep unfiled (take j M)) ≡ sizes (keep unfiled (x ∷ take j es))

module _ (x : Entry) (es : List Entry) (w : Plain (x ∷ es)) where
  onward_dead : filed x ≡ false → Onward x es (start_on es)
  onward_dead f =
      let q : unfiled x ≡ true = ap not f in
      record {
        plain = plain_start es (record { rest = unrivalled_rest x es w.rest.1; apart = w.apart.1 });
        live = start_filed es ∙ sym (kept_no filed x es f);
        dead = omega (arith, start_unfiled es, kept_yes unfiled x es q, kept_yes unfiled x [] q);
        part = λ j. omega (arith, start_part j es, kept_yes unfiled x (take j es) q, kept_yes unfiled x [] q);
      }

  onward_live : (p : Place) → filed x ≡ true → Onward x es (start_on (es ++ (copy_of p x ∷ [])))
  onward_live p f =
      let c : Entry = copy_of p x in
      let fs : List Entry = es ++ (c ∷ []) in
      let q : unfiled x ≡ false = ap not f in
      let k : filed c ≡ true = ap (λ (t : Bool). t || named 0xF8 c) (copy_filed p x f) in
      let u : unfiled c ≡ false = ap not k in
      record {
        plain = plain_start fs (plain_last c (copy_settled p x) x es f (λ y. refl) w);
        live = omega (arith, start_filed fs, kept_both filed es (c ∷ []), kept_yes filed c [] k, kept_yes filed x es f);
        dead =
            omega (
              arith,
              start_unfiled fs,
              kept_both unfiled es
                  (c ∷ []),
              kept_no unfiled c [] u,
              kept_no unfiled x es q,
              kept_no unfiled x [] q,
            );
        part =
            λ j. omega (arith, start_part j fs, kept_last unfiled j es c u, kept_no unfiled x (take j es) q, kept_no unfiled x [] q);
      }

module _ (p : Place) (e : Ending) (x : Entry) where
  abbrev now : List Entry → Reading
  now es = record { place = p; entries = x ∷ es; ending = e }

  copied_live : (es : List Entry) → live (x ∷ es) x ≡ true → copied p (x ∷ es) ≡ with_status 0x00 x ∷ (es ++ (copy_of p x ∷ []))
  unfolding copied
  copied_live es l = rw (copied, l)

  copied_dead : (es : List Entry) → live (x ∷ es) x ≡ false → copied p (x ∷ es) ≡ x ∷ es
  unfolding copied
  copied_dead es l = rw (copied, l)

  -- the copy goes behind the rest, and the head to the first of it
  left_live : (es : List Entry) → live (x ∷ es) x ≡ true → (moved_reading (now es)).entries ≡ start_on (es ++ (copy_of p x ∷ []))
  unfolding handed
  left_live [] l = ap (λ (vs : List Entry). (handed (after_copy p (x ∷ [])) vs).entries) (copied_live [] l)
  left_live (y ∷ us) l = ap (λ (vs : List Entry). (handed (after_copy p (x ∷ (y ∷ us))) vs).entries) (copied_live (y ∷ us) l)

  left_dead : (es : List Entry) → live (x ∷ es) x ≡ false → stuck (now es) ≡ false → (moved_reading (now es)).entries ≡ start_on es
  unfolding handed stuck at_end
  left_dead [] l s = absurd (false≢true (sym s ∙ rw (stuck, at_end, l)))
  left_dead (y ∷ us) l s = ap (λ (vs : List Entry). (handed (after_copy p (x ∷ (y ∷ us))) vs).entries) (copied_dead (y ∷ us) l)

  move_onward : (es : List Entry) → stuck (now es) ≡ false → Plain (x ∷ es) → Onward x es (moved_reading (now es)).entries
  move_onward es s w = go _ refl where
    is : live (x ∷ es) x ≡ filed x
    is = live_filed (x ∷ es) x w.rest.0

    go : (t : Bool) → filed x ≡ t → Onward x es (moved_reading (now es)).entries
    go true f = subst (Onward x es) (sym (left_live es (is ∙ f))) (onward_live x es w p f)
    go false f = subst (Onward x es) (sym (left_dead es (is ∙ f) s)) (onward_dead x es w f)

-- ---- the sweep

-- after at most k moves: the same bytes are in live records, and those of the records passed are no longer in others
pub record Passed (es : List Entry) (m : ℕ) (left : List Entry) : Type 0 where
  pub plain : Plain left
  pub live : sizes (keep filed left) ≡ sizes (keep filed es)
  pub dead : sizes (keep unfiled left) + sizes (keep unfiled (take m es)) ≡ sizes (keep unfiled es)

-- the count of one move more
passed_more : (x : Entry) (es M left : List Entry) (m : ℕ) → Onward x es M → Passed M m left → Passed (x ∷ es) (suc m) left
passed_more x es M left m o w =
    record { plain = w.plain; live = w.live ∙ o.live; dead = omega (arith, w.dead, o.dead, o.part m) }

pub sweep_counts : (k : ℕ) (p : Place) (e : Ending) (es : List Entry) → Plain es
    → Passed es (length (planned k (record { place = p; entries = es; ending = e })))
    (swept_reading k (record { place = p; entries = es; ending = e })).entries
unfolding planned swept_reading stuck at_end
sweep_counts zero p e es w = record { plain = w; live = refl; dead = omega arith }
sweep_counts (suc k) p e [] w = record { plain = w; live = refl; dead = refl }
sweep_counts (suc k) p e (x ∷ es) w = go _ refl (sweep_counts k) where
  r : Reading
  r = record { place = p; entries = x ∷ es; ending = e }

  q : Reading
  q = moved_reading r

  go : (t : Bool) → stuck r ≡ t
      → ((p : Place) (e : Ending) (us : List Entry) → Plain us
      → Passed us (length (planned k (record { place = p; entries = us; ending = e })))
      (swept_reading k (record { place = p; entries = us; ending = e })).entries)
      → Passed (x ∷ es) (length (planned (suc k) r)) (swept_reading (suc k) r).entries
  go true s ih = rw (planned, swept_reading, s) (record { plain = w; live = refl; dead = omega arith })
  go false s ih =
      let o : Onward x es q.entries = move_onward p e x es s w in
      rw (planned, swept_reading, s)
      (passed_more x es q.entries (swept_reading k q).entries (length (planned k q)) o
      (ih q.place q.ending q.entries o.plain))

-- ---- on settled images

module _ (im : Image) (r : Reading) (n : good_length (length im) ≡ true) (e : settled_reading im ≡ give r) where
  abbrev k : ℕ
  k = min 5 (length r.entries)

  passed_of : Passed r.entries (length (planned_moves r)) (swept_reading k r).entries
  passed_of = sweep_counts k r.place r.ending r.entries (settled_plain im r e)

  -- a sweep keeps every live byte
  pub sweep_live : live_bytes (swept_reading k r).entries ≡ live_bytes r.entries
  sweep_live =
      plain_live (swept_reading k r).entries passed_of.plain.rest ∙ passed_of.live
      ∙ sym (plain_live r.entries (settled_plain im r e).rest)

  -- of the others it keeps those from record m on, with m moves
  pub sweep_dead : sizes (others (swept_reading k r).entries)
      ≡ sizes (keep (λ f. not (live r.entries f)) (drop (length (sweep_moves im r)) r.entries))
  sweep_dead =
      let all : List Entry = r.entries in
      let m : ℕ = length (planned_moves r) in
      let q : m ≡ length (sweep_moves im r) = sym (ap length (sweep_as_planned im r n e)) in
      let alike : Each (λ f. not (live all f) ≡ unfiled f) all = each_not all all (each_live all all (settled_plain im r e).rest) in
      let first : sizes (keep (λ f. not (live all f)) (take m all)) ≡ sizes (keep unfiled (take m all)) =
      sizes_same (λ f. not (live all f)) unfiled (take m all) (each_take (λ f. not (live all f) ≡ unfiled f) m all alike) in
      let split : sizes (keep (λ f. not (live all f)) (take m all)) + sizes (keep (λ f. not (live all f)) (drop m all))
      ≡ sizes (others all) =
      sym (kept_both (λ f. not (live all f)) (take m all) (drop m all))
      ∙ ap (λ (us : List Entry). sizes (keep (λ f. not (live all f)) us)) (take-append-drop m all) in
      omega (
        arith,
        first,
        split,
        plain_dead (swept_reading k r).entries passed_of.plain.rest,
        plain_dead all (settled_plain im r e).rest,
        passed_of.dead,
      )
      ∙ ap (λ (j : ℕ). sizes (keep (λ f. not (live all f)) (drop j all))) q
