-- Two stretches that agree in what the walk looks at are alike to it.
use Rattle.std.specs.Prelude.{ℕ, zero, suc, ◌+◌, ◌≤◌, ◌<◌, ◌≡◌, Bool, ◌&&◌, ◌||◌, not, List, [], ◌∷◌, length, drop, get_or, eqb}
use Rattle.std.proofs.Common.{arith, ap, subst, ◌∙◌, inl, inr, length-drop, get_or-take, length-take-le, ne_eqb}
use Rattle.std.proofs.Math.Path.{refl, sym, ap₂}
use Rattle.std.proofs.Math.Bool.{true, false}
use Rattle.std.proofs.Math.ListN.{take}
use Rattle.std.proofs.Math.Dec.{ltb}
use Rattle.spec.specs.declared.Kind.{Kind}
use Rattle.spec.specs.declared.Next.{Next}
use Rattle.spec.specs.Basics.{long, blank, all}
use Rattle.spec.specs.Geometry.{up8}
use Rattle.spec.specs.Bytes.{is_unfinished, is_erased, is_reserved, is_spare, is_high, is_wrap, is_wrapped, is_record, is_start, is_clean}
use Rattle.spec.specs.Record.{Entry, low_of, high_of, status_of, spare_of, data_len_of, name_length, size_of, rec_of}
use Rattle.spec.specs.Next.{is_torn_marker, kind, sized, clear_at, next_at, next}
use Rattle.spec.specs.Chain.{Chain, add, chain}
use Rattle.spec.specs.Length.{right_mark, own_name_ok, stands, header_stands, name_read, standing_size}
use Rattle.laws.specs.Tests.{not_true, and_left, and_right}
use Rattle.laws.specs.Next.{NotRecord}
use Rattle.laws.specs.Parts.{long_true}
use Rattle.laws.specs.Chain.{chain_record, chain_stop}
use Rattle.headers.specs.Kinds.{kind_of}
use Rattle.headers.specs.Twins.{Twin, stands_alike}
use Rattle.headers.specs.NameBytes.{OneName, one_name}
use Rattle.headers.specs.Agree.{all_right, fine, Alike, Agree, Fails_if}
use Rattle.headers.specs.Agree.{fails, marked_wrong, open_wrong, sized_fails, torn_if, torn_wrap_if}

pub long_same : (j : ℕ) (s t : List ℕ) → length s ≡ length t → long j s ≡ long j t
unfolding long
long_same zero s t l = refl
long_same (suc j) [] [] l = refl
long_same (suc j) [] (y ∷ t) l = absurd (omega arith)
long_same (suc j) (x ∷ s) [] l = absurd (omega arith)
long_same (suc j) (x ∷ s) (y ∷ t) l = long_same j s t (omega arith)

sized_same : (s t : List ℕ) (n d : ℕ) → length s ≡ length t → sized s n d ≡ sized t n d
unfolding sized
sized_same s t n d l =
    ap (λ (b : Bool). elim (ltb n 64) as
    (λ c. Next) [ true ↦ elim b as (λ c. Next) [ true ↦ Next.Record n d | false ↦ Next.Bad ] | false ↦ Next.Bad ])
    (long_same (size_of n d) s t l)

-- ---- a torn or reserved record, by its kind, has an unfinished status

abbrev Open : Kind → Type 0
Open Kind.Record = ⊥
Open Kind.Reserved = Unit {0}
Open Kind.Torn = Unit {0}
Open Kind.Marker = ⊥
Open Kind.TornMarker = ⊥
Open Kind.Clear = ⊥
Open Kind.Bad = ⊥

kind_shut : (b c st m : ℕ) → is_erased st ≡ false → is_reserved st ≡ false → Open (kind b c st m) → ⊥
unfolding kind
kind_shut b c st m e f o =
    go (is_spare m) (is_torn_marker b c st) (is_high c) (is_wrap b) (is_wrapped st)
    (is_record b || is_start b || is_clean b) refl refl refl refl refl refl
  where
    go : (t u v w x y : Bool) → is_spare m ≡ t → is_torn_marker b c st ≡ u → is_high c ≡ v → is_wrap b ≡ w → is_wrapped st ≡ x
        → (is_record b || is_start b || is_clean b) ≡ y → ⊥
    go false u v w x y p1 p2 p3 p4 p5 p6 = rw (kind, p1) at o
    go true true v w x y p1 p2 p3 p4 p5 p6 = rw (kind, p1, p2) at o
    go true false false w x y p1 p2 p3 p4 p5 p6 = rw (kind, p1, p2, e, p3) at o
    go true false true true true y p1 p2 p3 p4 p5 p6 = rw (kind, p1, p2, e, p3, p4, p5) at o
    go true false true true false y p1 p2 p3 p4 p5 p6 = rw (kind, p1, p2, e, p3, p4, p5) at o
    go true false true false x true p1 p2 p3 p4 p5 p6 = rw (kind, p1, p2, e, p3, p4, p6, f) at o
    go true false true false x false p1 p2 p3 p4 p5 p6 = rw (kind, p1, p2, e, p3, p4, p6) at o

kind_open : (b c st m : ℕ) → Open (kind b c st m) → is_unfinished st ≡ true
unfolding is_unfinished
kind_open b c st m o = go (is_erased st) (is_reserved st) refl refl where
  go : (t u : Bool) → is_erased st ≡ t → is_reserved st ≡ u → is_unfinished st ≡ true
  go true u e f = rw e
  go false true e f = rw (e, f)
  go false false e f = absurd (kind_shut b c st m e f o)

-- ---- a stretch that goes on behind a record that stands

pub right_all : (es : List Entry) → all_right false es ≡ all (stands false) es
right_all [] = refl
right_all (x ∷ es) = go (stands false x) refl where
  go : (t : Bool) → stands false x ≡ t → all_right false (x ∷ es) ≡ all (stands false) (x ∷ es)
  go true e = rw (all, e)
  go false e = rw (all, e)

add_fails : (first : Bool) (x : Entry) (c : Chain) → stands first x ≡ true → fine false c ≡ false → fine first (add x c) ≡ false
unfolding fine
add_fails first x c e f = rw (fine, e, sym (right_all c.entries)) f

grown : (first : Bool) (x y : Entry) (c d : Chain) → Twin x y → stands first x ≡ true → Alike false c d → Alike first (add x c) (add y d)
grown first x y c d t e (inl f) = inl (add_fails first x c e f.0, add_fails first y d (sym (stands_alike x y t first) ∙ e) f.1)
grown first x y c d t e (inr s) = inr (record { twins = (t, s.twins); last = s.last; shut = s.shut })

-- ---- the first thing of each

pub finished_there : (first : Bool) (e : Entry) → stands first e ≡ true → is_unfinished e.it.status ≡ false
unfolding stands
finished_there first e h =
    not_true (is_unfinished e.it.status)
    (and_right (right_mark first e.it.low) (not (is_unfinished e.it.status))
    (and_left (right_mark first e.it.low && not (is_unfinished e.it.status)) (own_name_ok e) h))

module _ (k : ℕ) (first : Bool) (at : ℕ) (s t : List ℕ) (l : length s ≡ length t) where
  abbrev Both : Type 0
  Both = Alike first (chain (suc k) false at s) (chain (suc k) false at t)

  fail_both : Fails_if k first at s (next s) → Fails_if k first at t (next t) → Both
  fail_both f g = inl (fails k first at s _ refl f, fails k first at t _ refl g)

  stop_both : (x : Next) → NotRecord x → next s ≡ x → next t ≡ x → Both
  stop_both x z e f =
      rw (chain_stop k false at s x z e, chain_stop k false at t x z f) (inr (record { twins = tt; last = refl; shut = (refl, refl) }))

  nothing : long 1 s ≡ false → Both
  unfolding next
  nothing p = stop_both Next.Over tt (rw (next, p)) (let q : long 1 t ≡ false = sym (long_same 1 s t l) ∙ p in rw (next, q))

  module _ (p : long 1 s ≡ true) where
    few : long 8 s ≡ false → Both
    unfolding next
    few q =
        let a : long 1 t ≡ true = sym (long_same 1 s t l) ∙ p in
        let b : long 8 t ≡ false = sym (long_same 8 s t l) ∙ q in
        let es : next s ≡ Next.Bad = rw (next, p, q) in
        let et : next t ≡ Next.Bad = rw (next, a, b) in
        fail_both (rw es tt) (rw et tt)

    module _ (q : long 8 s ≡ true) (e : take 8 s ≡ take 8 t) where
      byte_same : (i : ℕ) → i < 8 → get_or s i 0 ≡ get_or t i 0
      byte_same i h = sym (get_or-take 8 s i 0 h) ∙ ap (λ (u : List ℕ). get_or u i 0) e ∙ get_or-take 8 t i 0 h

      kind_same : kind_of s ≡ kind_of t
      kind_same = rw (byte_same 0 (omega arith), byte_same 1 (omega arith), byte_same 2 (omega arith), byte_same 3 (omega arith))

      data_same : data_len_of s ≡ data_len_of t
      data_same = rw (byte_same 4 (omega arith), byte_same 5 (omega arith), byte_same 6 (omega arith), byte_same 7 (omega arith))

      module _ (kd : Kind) (ks : kind_of s ≡ kd) where
        here : next s ≡ next_at kd s
        unfolding next
        here = rw (next, p, q, ks)

        there : next t ≡ next_at kd t
        unfolding next
        there =
            let a : long 1 t ≡ true = sym (long_same 1 s t l) ∙ p in
            let b : long 8 t ≡ true = sym (long_same 8 s t l) ∙ q in
            let c : kind_of t ≡ kd = sym kind_same ∙ ks in
            rw (next, a, b, c)

      -- neither is a record that can stand: by the kind, or by the mark
      kind_fails : (kd : Kind) → kind_of s ≡ kd → Open kd → Both
      unfolding next_at
      kind_fails Kind.Record ks o = absurd o
      kind_fails Kind.Reserved ks o =
          let u : is_unfinished (status_of s) ≡ true = kind_open (low_of s) (high_of s) (status_of s) (spare_of s) (rw ks o) in
          let v : is_unfinished (status_of t) ≡ true = sym (ap is_unfinished (byte_same 2 (omega arith))) ∙ u in
          fail_both
          (rw (here Kind.Reserved ks)
          (sized_fails k first at s (open_wrong k first at s u) (name_length 64 true (drop 8 s)) (data_len_of s) _ _ refl refl))
          (rw (there Kind.Reserved ks)
          (sized_fails k first at t (open_wrong k first at t v) (name_length 64 true (drop 8 t)) (data_len_of t) _ _ refl refl))
      kind_fails Kind.Torn ks o =
          let u : is_unfinished (status_of s) ≡ true = kind_open (low_of s) (high_of s) (status_of s) (spare_of s) (rw ks o) in
          let v : is_unfinished (status_of t) ≡ true = sym (ap is_unfinished (byte_same 2 (omega arith))) ∙ u in
          fail_both (rw (here Kind.Torn ks) (torn_if k first at s (open_wrong k first at s u) _ refl))
          (rw (there Kind.Torn ks) (torn_if k first at t (open_wrong k first at t v) _ refl))
      kind_fails Kind.Marker ks o = absurd o
      kind_fails Kind.TornMarker ks o = absurd o
      kind_fails Kind.Clear ks o = absurd o
      kind_fails Kind.Bad ks o = absurd o

      mark_fails : kind_of s ≡ Kind.Record → right_mark first (low_of s) ≡ false → Both
      unfolding next_at
      mark_fails ks m =
          let n : right_mark first (low_of t) ≡ false = sym (ap (right_mark first) (byte_same 0 (omega arith))) ∙ m in
          fail_both
          (rw (here Kind.Record ks)
          (sized_fails k first at s (marked_wrong k first at s m) (name_length 64 false (drop 8 s)) (data_len_of s) _ _ refl refl))
          (rw (there Kind.Record ks)
          (sized_fails k first at t (marked_wrong k first at t n) (name_length 64 false (drop 8 t)) (data_len_of t) _ _ refl refl))

      clear_same : kind_of s ≡ Kind.Clear → Both
      unfolding next_at clear_at
      clear_same ks = go (blank (take 8 s)) refl where
        go : (b : Bool) → blank (take 8 s) ≡ b → Both
        go true h =
            let g : blank (take 8 t) ≡ true = sym (ap blank e) ∙ h in
            stop_both Next.Clear tt (here Kind.Clear ks ∙ rw (clear_at, h)) (there Kind.Clear ks ∙ rw (clear_at, g))
        go false h =
            let g : blank (take 8 t) ≡ false = sym (ap blank e) ∙ h in
            let es : next s ≡ Next.Bad = here Kind.Clear ks ∙ rw (clear_at, h) in
            let et : next t ≡ Next.Bad = there Kind.Clear ks ∙ rw (clear_at, g) in
            fail_both (rw es tt) (rw et tt)

      -- ---- a record, with its name

      module _ (ks : kind_of s ≡ Kind.Record)
          (names : take (length (name_read s)) (drop 8 s) ≡ take (length (name_read s)) (drop 8 t)) where
        abbrev n : ℕ
        n = name_length 64 false (drop 8 s)

        abbrev d : ℕ
        d = data_len_of s

        name_same : OneName 64 (drop 8 s) (drop 8 t)
        name_same = one_name 63 (drop 8 s) (drop 8 t) (rw (length-drop, length-drop) (omega arith)) names

        sized_here : next s ≡ sized s n d
        unfolding next_at
        sized_here = here Kind.Record ks

        sized_there : next t ≡ sized s n d
        unfolding next_at
        sized_there =
            there Kind.Record ks ∙ ap₂ (sized t) (sym name_same.0) (sym data_same) ∙ sym (sized_same s t n d l)

        twin_there : size_of n d ≤ length s → Twin (record { at = at; it = rec_of s n d }) (record { at = at; it = rec_of t n d })
        twin_there f =
            record {
              at = refl;
              low = byte_same 0 (omega arith);
              status = byte_same 2 (omega arith);
              name = name_same.1;
              size =
                  length-take-le d (drop (up8 (n + 1)) (drop 8 s)) (rw (length-drop, length-drop) (omega arith))
                  ∙ sym (length-take-le d (drop (up8 (n + 1)) (drop 8 t)) (rw (length-drop, length-drop) (omega arith)));
            }

        -- behind the record they are alike too
        abbrev Later : Type 0
        Later =
            next s ≡ Next.Record n d → stands first (record { at = at; it = rec_of s n d }) ≡ true
            → Alike false (chain k false (at + size_of n d) (drop (size_of n d) s))
            (chain k false (at + size_of n d) (drop (size_of n d) t))

        stood_both : Later → next s ≡ Next.Record n d → next t ≡ Next.Record n d → size_of n d ≤ length s → Both
        stood_both later es et f = go (stands first x) refl where
          x : Entry
          x = record { at = at; it = rec_of s n d }

          y : Entry
          y = record { at = at; it = rec_of t n d }

          go : (b : Bool) → stands first x ≡ b → Both
          go true h =
              let z : ℕ = size_of n d in
              let w : Twin x y = twin_there f in
              let cs : chain (suc k) false at s ≡ add x (chain k false (at + z) (drop z s)) = chain_record k false at s n d es
              ∙ ap (λ (b : Bool). add x (chain k b (at + z) (drop z s))) (finished_there first x h) in
              let ct : chain (suc k) false at t ≡ add y (chain k false (at + z) (drop z t)) = chain_record k false at t n d et
              ∙ ap (λ (b : Bool). add y (chain k b (at + z) (drop z t))) (finished_there first y (sym (stands_alike x y w first) ∙ h)) in
              rw (cs, ct) (grown first x y (chain k false (at + z) (drop z s)) (chain k false (at + z) (drop z t)) w h (later es h))
          go false h = fail_both (rw es h) (rw et (sym (stands_alike x y (twin_there f) first) ∙ h))

        record_both : Later → Both
        unfolding sized
        record_both later = go (ltb n 64) (long (size_of n d) s) refl refl where
          go : (a b : Bool) → ltb n 64 ≡ a → long (size_of n d) s ≡ b → Both
          go true true g f =
              let z : sized s n d ≡ Next.Record n d = rw (sized, g, f) in
              stood_both later (sized_here ∙ z) (sized_there ∙ z) (long_true (size_of n d) s f)
          go true false g f =
              let z : sized s n d ≡ Next.Bad = rw (sized, g, f) in
              let es : next s ≡ Next.Bad = sized_here ∙ z in
              let et : next t ≡ Next.Bad = sized_there ∙ z in
              fail_both (rw es tt) (rw et tt)
          go false b g f =
              let z : sized s n d ≡ Next.Bad = rw (sized, g) in
              let es : next s ≡ Next.Bad = sized_here ∙ z in
              let et : next t ≡ Next.Bad = sized_there ∙ z in
              fail_both (rw es tt) (rw et tt)

-- ---- all of it

-- what is agreed on behind a record of this size; 0: behind none
abbrev AgreePast : ℕ → ℕ → List ℕ → List ℕ → ℕ → Type 0
AgreePast k at s t z = elim (eqb z 0) as (λ b. Type 0) [ true ↦ Unit {0} | false ↦ Agree k false (at + z) (drop z s) (drop z t) ]

abbrev AgreeBehind : ℕ → Bool → ℕ → List ℕ → List ℕ → Type 0
AgreeBehind k first at s t = AgreePast k at s t (standing_size first at s)

-- and of a record whose name is looked at
abbrev AgreeNamed : ℕ → Bool → ℕ → List ℕ → List ℕ → Type 0
AgreeNamed k first at s t =
    elim (header_stands first s) as (λ b. Type 0) [
      | false ↦ Unit {0}
      | true ↦ (take (length (name_read s)) (drop 8 s) ≡ take (length (name_read s)) (drop 8 t)) × AgreeBehind k first at s t
    ]

size_there : (first : Bool) (at : ℕ) (s : List ℕ) (n d : ℕ) → next s ≡ Next.Record n d
    → stands first (record { at = at; it = rec_of s n d }) ≡ true → standing_size first at s ≡ size_of n d
unfolding standing_size
size_there first at s n d e h = rw (standing_size, e, h)

header_there : (first : Bool) (s : List ℕ) → kind_of s ≡ Kind.Record → right_mark first (low_of s) ≡ true → header_stands first s ≡ true
unfolding header_stands
header_there first s ks m = rw (header_stands, ks, m)

module _ (k : ℕ) (first : Bool) (at : ℕ) (s t : List ℕ) (l : length s ≡ length t)
    (ih : (a : ℕ) (u v : List ℕ) → length u ≡ length v → Agree k false a u v → Alike false (chain k false a u) (chain k false a v)) where
  behind : (n d : ℕ) → next s ≡ Next.Record n d → stands first (record { at = at; it = rec_of s n d }) ≡ true → AgreeBehind k first at s t
      → Alike false (chain k false (at + size_of n d) (drop (size_of n d) s)) (chain k false (at + size_of n d) (drop (size_of n d) t))
  behind n d e h w =
      let z : standing_size first at s ≡ size_of n d = size_there first at s n d e h in
      let b : eqb (size_of n d) 0 ≡ false = ne_eqb (size_of n d) 0 (λ q. omega arith) in
      let v : Agree k false (at + size_of n d) (drop (size_of n d) s) (drop (size_of n d) t) = rw (AgreePast, b) at
      (subst (λ (i : ℕ). AgreePast k at s t i) z w) in
      ih (at + size_of n d) (drop (size_of n d) s) (drop (size_of n d) t) (rw (length-drop, length-drop) (omega arith)) v

  module _ (p : long 1 s ≡ true) (q : long 8 s ≡ true) (e : take 8 s ≡ take 8 t) (g : AgreeNamed k first at s t) where
    by_mark : (b : Bool) → kind_of s ≡ Kind.Record → right_mark first (low_of s) ≡ b → Both k first at s t l
    by_mark true ks m =
        let w : (take (length (name_read s)) (drop 8 s) ≡ take (length (name_read s)) (drop 8 t)) × AgreeBehind k first at s t = rw
        (AgreeNamed, header_there first s ks m) at g in
        record_both k first at s t l p q e ks w.0 (λ es h. behind _ _ es h w.1)
    by_mark false ks m = mark_fails k first at s t l p q e ks m

    by_kind : (kd : Kind) → kind_of s ≡ kd → Both k first at s t l
    unfolding next_at
    by_kind Kind.Record ks = by_mark _ ks refl
    by_kind Kind.Reserved ks = kind_fails k first at s t l p q e Kind.Reserved ks tt
    by_kind Kind.Torn ks = kind_fails k first at s t l p q e Kind.Torn ks tt
    by_kind Kind.Marker ks =
        stop_both k first at s t l Next.Wrap tt (here k first at s t l p q e Kind.Marker ks) (there k first at s t l p q e Kind.Marker ks)
    by_kind Kind.TornMarker ks =
        fail_both k first at s t l (rw (here k first at s t l p q e Kind.TornMarker ks) (torn_wrap_if k first at s _ refl))
        (rw (there k first at s t l p q e Kind.TornMarker ks) (torn_wrap_if k first at t _ refl))
    by_kind Kind.Clear ks = clear_same k first at s t l p q e ks
    by_kind Kind.Bad ks =
        fail_both k first at s t l (rw (here k first at s t l p q e Kind.Bad ks) tt) (rw (there k first at s t l p q e Kind.Bad ks) tt)

  step : Agree (suc k) first at s t → Both k first at s t l
  unfolding Agree
  step g = by_length (long 1 s) refl where
    by_length : (b : Bool) → long 1 s ≡ b → Both k first at s t l
    by_length false p = nothing k first at s t l p
    by_length true p = go (long 8 s) refl where
      w : (take 8 s ≡ take 8 t) × AgreeNamed k first at s t
      w = rw (Agree, p) at g

      go : (b : Bool) → long 8 s ≡ b → Both k first at s t l
      go false q = few k first at s t l p q
      go true q = by_kind p q w.0 w.1 (kind_of s) refl

pub alike : (k : ℕ) (first : Bool) (at : ℕ) (s t : List ℕ) → length s ≡ length t → Agree k first at s t
    → Alike first (chain k false at s) (chain k false at t)
unfolding chain fine
alike zero first at s t l g = inl (refl, refl)
alike (suc k) first at s t l g = step k first at s t l (λ a u v m w. alike k false a u v m w) g
