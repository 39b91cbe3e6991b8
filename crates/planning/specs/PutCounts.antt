-- How many bytes are in live records after a put, and how many in others, counted in the first reading.
use Rattle.std.specs.Prelude.{ℕ, ◌+◌, ◌<◌, ◌≡◌, ◌||◌, not, length}
use Rattle.std.proofs.Common.{arith, sym, ◌∙◌, subst, eq-eqb, ne_eqb}
use Rattle.std.proofs.Math.Path.{refl, ap}
use Rattle.std.proofs.Math.Bool.{Bool, true, false}
use Rattle.std.proofs.lemmas.Bool.{false≢true}
use Rattle.std.proofs.Math.Option.{Option, none, some}
use mathlib.Core.List.{List, [], ◌∷◌, ◌++◌, map}
use Rattle.spec.specs.Step.{Image}
use Rattle.spec.specs.Basics.{give, empty, keep, any, first_such, same, Each}
use Rattle.spec.specs.Record.{name_fault, name_ok, Entry, name_of, size}
use Rattle.spec.specs.Chain.{Reading}
use Rattle.spec.specs.Files.{named, named_as, same_name, has_named, live, has_name, file_named}
use Rattle.spec.specs.Door.{settled_reading}
use Rattle.spec.specs.Space.{sizes, live_bytes, others}
use Rattle.laws.specs.Tests.{not_both, and_no}
use Rattle.laws.specs.Lists.{any_no, keep_yes, keep_no, first_yes, first_no, each_map, each_append, same_is}
use Rattle.planning.specs.Planned.{with_status, dead_if}
use Rattle.planning.specs.First.{reads_head}
use Rattle.planning.specs.Scattered.{Scattered, reads_scattered}
use Rattle.planning.specs.Dropped.{drop_if, reads_inside}
use Rattle.planning.specs.Rested.{settled_rested}
use Rattle.planning.specs.Lone.{any_first, any_both, Unrivalled, Apart}
use Rattle.planning.specs.PutRested.{stands_at}
use Rattle.planning.specs.Copied.{map_kept, first_taken}
use Rattle.planning.specs.Puts.{old_at, first_kept, put_left, new_record}
use Rattle.planning.specs.Filed.{filed, unfiled, Plain, each_live, plain_live, plain_dead, kept_yes, kept_no, kept_both}
use Rattle.planning.specs.Filed.{settled_plain}

-- ---- the record that is taken

dead_unfiled : (e : Entry) → filed (with_status 0x00 e) ≡ false
unfolding named
dead_unfiled e = refl

module _ (all : List Entry) (n : List ℕ) (e : Entry) where
  -- what is counted then
  abbrev taken : Entry → Bool
  taken = stands_at e.at

  abbrev Counted : List Entry → Type 0
  Counted es =
      (sizes (keep filed (map (drop_if taken) es)) + size e ≡ sizes (keep filed es))
      × (sizes (keep unfiled (map (drop_if taken) es)) ≡ sizes (keep unfiled es) + size e)

  -- the first record f is not it, if it is one of the others
  later_not : (f : Entry) (es : List Entry) → Each (λ y. y.at ≡ f.at → ⊥) es → first_such (has_name n) (keep (live all) es) ≡ some e
      → taken f ≡ false
  later_not f es s h =
      let far : e.at ≡ f.at → ⊥ =
      first_kept (live all) (has_name n) es e (λ g. g.at ≡ f.at → ⊥) h
      (each_map {P = λ g. g.at ≡ f.at → ⊥} {Q = λ g. live all g ≡ true → g.at ≡ f.at → ⊥} es (λ g u v. u) s) in
      ne_eqb f.at e.at (λ q. far (sym q))

  -- e is the first
  counted_here : (es : List Entry) → filed e ≡ true → Each (λ y. y.at ≡ e.at → ⊥) es → Counted (e ∷ es)
  counted_here es d s =
      let is : map (drop_if taken) (e ∷ es) ≡ with_status 0x00 e ∷ es = first_taken e es s in (
        omega (
          arith,
          ap (λ (us : List Entry). sizes (keep filed us)) is,
          kept_no filed (with_status 0x00 e) es (dead_unfiled e),
          kept_yes filed e es d,
        ),
        omega (
          arith,
          ap (λ (us : List Entry). sizes (keep unfiled us)) is,
          kept_yes unfiled (with_status 0x00 e) es (ap not (dead_unfiled e)),
          kept_no unfiled e es (ap not d),
        ),
      )

  -- it stands behind f
  counted_later : (f : Entry) (es : List Entry) → taken f ≡ false → Counted es → Counted (f ∷ es)
  counted_later f es off w = go _ refl where
    ds : List Entry
    ds = map (drop_if taken) es

    is : map (drop_if taken) (f ∷ es) ≡ f ∷ ds
    is = ap (λ (b : Bool). dead_if b f ∷ ds) off

    both : (p : Entry → Bool) → sizes (keep p (map (drop_if taken) (f ∷ es))) ≡ sizes (keep p (f ∷ ds))
    both p = ap (λ (us : List Entry). sizes (keep p us)) is

    go : (b : Bool) → filed f ≡ b → Counted (f ∷ es)
    go true q =
        let u : unfiled f ≡ false = ap not q in (
          omega (arith, both filed, kept_yes filed f ds q, kept_yes filed f es q, w.0),
          omega (arith, both unfiled, kept_no unfiled f ds u, kept_no unfiled f es u, w.1),
        )
    go false q =
        let u : unfiled f ≡ true = ap not q in (
          omega (arith, both filed, kept_no filed f ds q, kept_no filed f es q, w.0),
          omega (arith, both unfiled, kept_yes unfiled f ds u, kept_yes unfiled f es u, w.1),
        )

  counted : (es : List Entry) → Each (λ f. live all f ≡ filed f) es → Scattered es → first_such (has_name n) (keep (live all) es) ≡ some e
      → Counted es
  counted [] u s h = absurd (let z : ◌≡◌ {A = ℕ} 0 1 = cc in omega arith)
  counted (f ∷ es) u s h = go _ refl _ refl (counted es u.1 s.1) where
    go : (a : Bool) → live all f ≡ a → (b : Bool) → has_name n f ≡ b → (first_such (has_name n) (keep (live all) es) ≡ some e → Counted es)
        → Counted (f ∷ es)
    go true a true b ih =
        let k : some f ≡ some e = sym (first_yes (has_name n) f (keep (live all) es) b)
        ∙ ap (first_such (has_name n)) (sym (keep_yes (live all) f es a)) ∙ h in
        let z : e ≡ f = cc in
        subst (λ (g : Entry). Counted (g ∷ es)) z
        (counted_here es (ap filed z ∙ sym u.0 ∙ a) (subst (λ (g : Entry). Each (λ y. y.at ≡ g.at → ⊥) es) (sym z) s.0))
    go true a false b ih =
        let k = sym (first_no (has_name n) f (keep (live all) es) b) ∙ ap (first_such (has_name n)) (sym (keep_yes (live all) f es a))
        ∙ h in
        counted_later f es (later_not f es s.0 k) (ih k)
    go false a b q ih =
        let k = ap (first_such (has_name n)) (sym (keep_no (live all) f es a)) ∙ h in
        counted_later f es (later_not f es s.0 k) (ih k)

-- ---- no other record of the name is F8

-- of a record that is left
abbrev Nameless : (Entry → Bool) → List ℕ → Entry → Type 0
Nameless t n y = t y ≡ false → named 0xF8 y ≡ true → has_name n y ≡ false

filed_F8 : (y : Entry) → named 0xF8 y ≡ true → filed y ≡ true
filed_F8 y h = ap (λ (b : Bool). named 0xFC y || b) h ∙ or_true (named 0xFC y) where
  or_true : (b : Bool) → (b || true) ≡ true
  or_true true = refl
  or_true false = refl

module _ (all : List Entry) (n : List ℕ) (t : Entry → Bool) where
  -- with none of this name
  none_named : (es : List Entry) → Each (λ f. live all f ≡ filed f) es → first_such (has_name n) (keep (live all) es) ≡ none
      → Each (Nameless t n) es
  none_named [] u h = tt
  none_named (f ∷ es) u h = go _ refl _ refl (none_named es u.1) where
    go : (a : Bool) → live all f ≡ a → (b : Bool) → has_name n f ≡ b
        → (first_such (has_name n) (keep (live all) es) ≡ none → Each (Nameless t n) es)
        → Each (Nameless t n) (f ∷ es)
    go true a true b ih =
        absurd (some_not (sym (first_yes (has_name n) f (keep (live all) es) b)
        ∙ ap (first_such (has_name n)) (sym (keep_yes (live all) f es a)) ∙ h))
      where
        some_not : some f ≡ none → ⊥
        some_not q = let z : ◌≡◌ {A = ℕ} 0 1 = cc in omega arith
    go true a false b ih = (
      λ o k. b,
      ih (sym (first_no (has_name n) f (keep (live all) es) b)
          ∙ ap (first_such (has_name n)) (sym (keep_yes (live all) f es a)) ∙ h),
    )
    go false a b q ih = (
      λ o k. absurd (not_both (live all f) a (u.0 ∙ filed_F8 f k)),
      ih (ap (first_such (has_name n)) (sym (keep_no (live all) f es a))
          ∙ h),
    )

  -- with one
  module _ (e : Entry) where
    one_named : (es : List Entry) → Each (λ f. live all f ≡ filed f) es → Apart es → first_such (has_name n) (keep (live all) es) ≡ some e
        → Each (Nameless (stands_at e.at) n) es
    one_named [] u w h = tt
    one_named (f ∷ es) u w h = go _ refl _ refl (one_named es u.1 w.1) where
      go : (a : Bool) → live all f ≡ a → (b : Bool) → has_name n f ≡ b
          → (first_such (has_name n) (keep (live all) es) ≡ some e → Each (Nameless (stands_at e.at) n) es)
          → Each (Nameless (stands_at e.at) n) (f ∷ es)
      go true a true b ih =
          let k : some f ≡ some e = sym (first_yes (has_name n) f (keep (live all) es) b)
          ∙ ap (first_such (has_name n)) (sym (keep_yes (live all) f es a)) ∙ h in
          let z : f ≡ e = cc in
          let name : name_of f ≡ n = same_is (name_of f) n b in
          let filed-f : filed f ≡ true = sym u.0 ∙ a in (
            λ o k. absurd (not_both (stands_at e.at f) o (eq-eqb f.at e.at (ap (λ (g : Entry). g.at) z))),
            each_map {P = λ y. filed f ≡ true → named 0xF8 y ≡ true → same_name y f ≡ false} {Q = Nameless (stands_at e.at) n} es
                (λ y v o k. ap (same (name_of y)) (sym name) ∙ v filed-f k) w.0,
          )
      go true a false b ih = (
        λ o k. b,
        ih (sym (first_no (has_name n) f (keep (live all) es) b)
            ∙ ap (first_such (has_name n)) (sym (keep_yes (live all) f es a)) ∙ h),
      )
      go false a b q ih = (
        λ o k. absurd (not_both (live all f) a (u.0 ∙ filed_F8 f k)),
        ih
            (ap (first_such (has_name n)) (sym (keep_no (live all) f es a)) ∙ h),
      )

-- ---- the new record behind them

module _ (t : Entry → Bool) where
  dropped_one : (y f : Entry) (b : Bool) → named_as 0xFC y f ≡ false → named_as 0xFC y (dead_if b f) ≡ false
  unfolding named
  dropped_one y f true h = refl
  dropped_one y f false h = h

  dropped_none : (y : Entry) (es : List Entry) → any (named_as 0xFC y) es ≡ false → any (named_as 0xFC y) (map (drop_if t) es) ≡ false
  dropped_none y [] h = refl
  dropped_none y (f ∷ es) h =
      let z = any_first (named_as 0xFC y) f es h in
      any_no (named_as 0xFC y) (drop_if t f) (map (drop_if t) es) (dropped_one y f (t f) z.0) ∙ dropped_none y es z.1

  dead_F8 : (y : Entry) → named 0xF8 (with_status 0x00 y) ≡ false
  unfolding named
  dead_F8 y = refl

  module _ (all : List Entry) (new : Entry) (late : named 0xF8 new ≡ false) where
    abbrev after : List Entry
    after = map (drop_if t) all ++ (new ∷ [])

    one_after : (y : Entry) (b : Bool) → t y ≡ b → Unrivalled all y → Nameless t (name_of new) y → Unrivalled after (dead_if b y)
    unfolding has_named
    one_after y true q u w h = absurd (not_both (named 0xF8 (with_status 0x00 y)) (dead_F8 y) h)
    one_after y false q u w h =
        any_both (named_as 0xFC y) (map (drop_if t) all) (new ∷ []) (dropped_none y all (u h))
        (any_no (named_as 0xFC y) new [] (and_no (named 0xFC new) (same_name y new) (λ k. w q h)))

    each_after : (us : List Entry) → Each (Unrivalled all) us → Each (Nameless t (name_of new)) us
        → Each (Unrivalled after) (map (drop_if t) us)
    each_after [] u w = tt
    each_after (y ∷ us) u w = (one_after y (t y) refl u.0 w.0, each_after us u.1 w.1)

    plain_after : Each (Unrivalled all) all → Each (Nameless t (name_of new)) all → Each (Unrivalled after) after
    plain_after u w =
        each_append (Unrivalled after) (map (drop_if t) all) (new ∷ []) (each_after all u w)
        (λ h. absurd (not_both (named 0xF8 new) late h), tt)

-- ---- the put

-- the bytes of the file that is replaced
abbrev pub replaced_bytes : Option Entry → ℕ
replaced_bytes none = 0
replaced_bytes (some e) = size e

named_ok : (u : List ℕ) → name_ok u ≡ true → (not (empty u) || false) ≡ true
unfolding name_ok name_fault
named_ok [] h = absurd (false≢true h)
named_ok (b ∷ u) h = refl

module _ (im : Image) (r : Reading) (name content : List ℕ) (e : settled_reading im ≡ give r) (n : name_ok name ≡ true) where
  abbrev es : List Entry
  es = r.entries

  abbrev new : Entry
  new = new_record r.place name content

  plain : Plain es
  plain = settled_plain im r e

  alive : Each (λ f. live es f ≡ filed f) es
  alive = each_live es es plain.rest

  new_filed : filed new ≡ true
  unfolding named
  new_filed = named_ok name n

  new_late : named 0xF8 new ≡ false
  unfolding named
  new_late = refl

  abbrev left : Option Entry → List Entry
  left old = map (drop_if (stands_at (old_at old r.place.length))) es ++ (new ∷ [])

  -- with o bytes taken out of es
  counts_by : (ds : List Entry) (o : ℕ) → Each (Unrivalled (ds ++ (new ∷ []))) (ds ++ (new ∷ []))
      → (sizes (keep filed ds) + o ≡ sizes (keep filed es)) × (sizes (keep unfiled ds) ≡ sizes (keep unfiled es) + o)
      → (live_bytes (ds ++ (new ∷ [])) + o ≡ live_bytes es + size new) × (sizes (others (ds ++ (new ∷ []))) ≡ sizes (others es) + o)
  counts_by ds o w c =
      let all : List Entry = ds ++ (new ∷ []) in (
        omega (arith, plain_live all w, plain_live es plain.rest, kept_both filed ds (new ∷ []), kept_yes filed new [] new_filed, c.0),
        omega (
          arith,
          plain_dead all w,
          plain_dead es plain.rest,
          kept_both unfiled ds (new ∷ []),
          kept_no unfiled new []
              (ap not new_filed),
          c.1,
        ),
      )

  -- no record stands at the end
  none_taken : Each (λ f. stands_at r.place.length f ≡ false) es
  none_taken =
      let w = settled_rested im r e in
      let N = (reads_head w.reads).1 in
      each_map {P = λ f. f.at + 2 < length im} {Q = λ f. stands_at r.place.length f ≡ false} es
      (λ f u. ne_eqb f.at r.place.length (λ q. omega (arith, N, u))) (reads_inside (omega (arith, w.inside)) w.reads)

  -- by the file that is replaced, or none
  counts : (old : Option Entry) → file_named name es ≡ old
      → (live_bytes (left old) + replaced_bytes old ≡ live_bytes es + size new) × (sizes (others (left old))
      ≡ sizes (others es) + replaced_bytes old)
  unfolding file_named
  counts none h =
      let t : Entry → Bool = stands_at r.place.length in
      let is : map (drop_if t) es ≡ es = map_kept t es none_taken in
      counts_by (map (drop_if t) es) 0 (plain_after t es new new_late plain.rest (none_named es name t es alive h)) (
        omega (arith, ap (λ (us : List Entry). sizes (keep filed us)) is),
        omega
            (arith, ap (λ (us : List Entry). sizes (keep unfiled us)) is),
      )
  counts (some f) h =
      counts_by (map (drop_if (stands_at f.at)) es) (size f)
      (plain_after (stands_at f.at) es new new_late plain.rest (one_named es name (stands_at f.at) f es alive plain.apart h))
      (counted es name f es alive (reads_scattered (settled_rested im r e).reads) h)

  pub put_live : live_bytes (put_left name content r).entries + replaced_bytes (file_named name es) ≡ live_bytes es + size new
  put_live = (counts (file_named name es) refl).0

  pub put_dead : sizes (others (put_left name content r).entries) ≡ sizes (others es) + replaced_bytes (file_named name es)
  put_dead = (counts (file_named name es) refl).1
