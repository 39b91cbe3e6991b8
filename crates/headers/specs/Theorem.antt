-- THE second theorem of K8: "Two images of one length that agree in all headers and names on that walk, and in the end that stops it,
-- give the same answer." So no data byte can matter.
use Prim.Native.Nat.{ℕ, zero, suc}
use Rattle.std.proofs.Common.{arith, sym, subst, ◌∙◌, inl, inr, length-take, length-drop, ne_eqb}
use Rattle.std.specs.Prelude.{◌≡◌, Bool, ◌&&◌, not, length, take, drop}
use Rattle.std.proofs.Math.Path.{refl, ap, ap₂}
use Rattle.std.proofs.Math.Bool.{true, false}
use mathlib.Core.List.{List, [], ◌∷◌, ◌++◌}
use Rattle.std.proofs.Math.Seq.{take-length}
use Rattle.std.proofs.Math.Dec.{eqb}
use Rattle.std.proofs.lemmas.Bool.{eqb-false}
use Rattle.spec.specs.declared.Next.{Next}
use Rattle.spec.specs.declared.Extent.{Extent}
use Rattle.spec.specs.Step.{Image}
use Rattle.spec.specs.Basics.{Answer, refuse, give, numbered, checked, Each, all}
use Rattle.spec.specs.Geometry.{floor, good_length}
use Rattle.spec.specs.Record.{Entry, name_ok}
use Rattle.spec.specs.Door.{misnamed}
use Rattle.spec.specs.Next.{next}
use Rattle.spec.specs.Chain.{Chain, Reading, allowed, chain, ended, read_straight}
use Rattle.spec.specs.Chain.{read_turned, joined, from_head, from_zero, read_on, reading_from}
use Rattle.spec.specs.Answers.{Plan, carry_out}
use Rattle.spec.specs.Length.{stands, all_stand, at_tail, walked, head_fits}
use Rattle.spec.specs.Length.{length_from, length_asked, measured, file_length, seen, goes_round, seen_from}
use Rattle.laws.specs.Tests.{wrong}
use Rattle.laws.specs.Lists.{each_left, each_right}
use Rattle.headers.specs.Twins.{Twins, twins_append, stand_alike, length_alike}
use Rattle.headers.specs.Agree.{ends_well, all_right, fine, Same, Alike, Agree}
use Rattle.headers.specs.Alike.{right_all, alike}
use Rattle.headers.specs.Seen.{SameBytes, agreed}

-- ---- the answer of a reading

module _ (name : List ℕ) (h : ℕ) where
  not_ended : (r : Reading) → at_tail r.ending ≡ false → walked name h r ≡ refuse (numbered 5)
  unfolding walked
  not_ended r e = rw (walked, e)

  not_standing : (r : Reading) → all_stand h r.entries ≡ false → walked name h r ≡ refuse (numbered 5)
  unfolding walked
  not_standing r e = go (at_tail r.ending) refl where
    go : (t : Bool) → at_tail r.ending ≡ t → walked name h r ≡ refuse (numbered 5)
    go true f = rw (walked, f, e)
    go false f = rw (walked, f)

  -- the same records, to the walk, and the same end
  walked_alike : (r q : Reading) → Twins r.entries q.entries → at_tail r.ending ≡ at_tail q.ending
      → walked name h r ≡ walked name h q
  unfolding walked
  walked_alike r q t e =
      ap₂ (λ (b : Bool) (a : Answer ℕ). checked b (numbered 5) a)
      (ap₂ (λ (u v : Bool). u && v) e (stand_alike h r.entries q.entries t)) (length_alike name r.entries q.entries t)

  -- ---- records that fail still do with others behind them

  all_more : (es ds : List Entry) → all (stands false) es ≡ false → all (stands false) (es ++ ds) ≡ false
  all_more [] ds f = wrong (sym f)
  all_more (x ∷ es) ds f = go (stands false x) refl (all_more es ds) where
    go : (t : Bool) → stands false x ≡ t → (all (stands false) es ≡ false → all (stands false) (es ++ ds) ≡ false)
        → all (stands false) ((x ∷ es) ++ ds) ≡ false
    go true e ih = rw (all, e) (ih (rw (all, e) at f))
    go false e ih = rw (all, e)

  all_behind : (es ds : List Entry) → all (stands false) ds ≡ false → all (stands false) (es ++ ds) ≡ false
  all_behind [] ds f = f
  all_behind (x ∷ es) ds f = go (stands false x) refl (all_behind es ds f) where
    go : (t : Bool) → stands false x ≡ t → all (stands false) (es ++ ds) ≡ false → all (stands false) ((x ∷ es) ++ ds) ≡ false
    go true e ih = rw (all, e) ih
    go false e ih = rw (all, e)

  three : (a b c d : Bool) → (a && b && c) ≡ false → (c ≡ false → d ≡ false) → (a && b && d) ≡ false
  three true true c d f g = g f
  three true false c d f g = refl
  three false b c d f g = refl

  two : (a b c : Bool) → (b && c) ≡ false → (a && b && c) ≡ false
  two true b c f = f
  two false b c f = refl

  stand_more : (x : Entry) (es ds : List Entry) → all_stand h (x ∷ es) ≡ false → all_stand h ((x ∷ es) ++ ds) ≡ false
  unfolding all_stand
  stand_more x es ds f =
      three (eqb x.at h) (stands true x) (all (stands false) es) (all (stands false) (es ++ ds)) f (all_more es ds)

  stand_behind : (es ds : List Entry) → all_stand h es ≡ true → all (stands false) ds ≡ false → all_stand h (es ++ ds) ≡ false
  unfolding all_stand
  stand_behind [] ds e f = wrong e
  stand_behind (x ∷ es) ds e f = rw (all_behind es ds f) (none (eqb x.at h) (stands true x)) where
    none : (a b : Bool) → (a && b && false) ≡ false
    none true true = refl
    none true false = refl
    none false b = refl

  right_stand : (es : List Entry) → all_right true es ≡ false → all_stand h es ≡ false
  unfolding all_stand
  right_stand [] f = wrong (sym f)
  right_stand (x ∷ es) f = two (eqb x.at h) (stands true x) (all (stands false) es) f

  right_more : (es ds : List Entry) → all_right true es ≡ false → all_stand h (es ++ ds) ≡ false
  right_more [] ds f = wrong (sym f)
  right_more (x ∷ es) ds f = stand_more x es ds (right_stand (x ∷ es) f)

  -- what stands at 0 is not at the head
  zero_first : (k : ℕ) (p : Bool) (s : List ℕ) → eqb 0 h ≡ false → all_stand h (chain k p 0 s).entries ≡ false
  unfolding chain all_stand
  zero_first zero p s z = refl
  zero_first (suc k) p s z = go (allowed p (next s)) refl where
    go : (x : Next) → allowed p (next s) ≡ x → all_stand h (chain (suc k) p 0 s).entries ≡ false
    go (Next.Record n d) e = rw (chain, e, z)
    go Next.Wrap e = rw (chain, e)
    go Next.TornWrap e = rw (chain, e)
    go Next.Clear e = rw (chain, e)
    go Next.Over e = rw (chain, e)
    go Next.Bad e = rw (chain, e)

  -- ---- a stretch that fails gives 5, whatever follows

  module _ (image : Image) (c : Chain) where
    ill_ended : ends_well c.last ≡ false → at_tail (read_on image h c).ending ≡ false
    unfolding read_on joined
    ill_ended f = go (eqb (floor h) 0) c.last refl refl where
      go : (t : Bool) (x : Next) → eqb (floor h) 0 ≡ t → c.last ≡ x → at_tail (read_on image h c).ending ≡ false
      go true (Next.Record n d) e q = rw (read_on, e, q)
      go true Next.Wrap e q = wrong (sym (rw q at f))
      go true Next.TornWrap e q = rw (read_on, e, q)
      go true Next.Clear e q = wrong (sym (rw q at f))
      go true Next.Over e q = wrong (sym (rw q at f))
      go true Next.Bad e q = rw (read_on, e, q)
      go false (Next.Record n d) e q = rw (read_on, e, joined, q) (rw q)
      go false Next.Wrap e q = wrong (sym (rw q at f))
      go false Next.TornWrap e q = rw (read_on, e, joined, q)
      go false Next.Clear e q = wrong (sym (rw q at f))
      go false Next.Over e q = wrong (sym (rw q at f))
      go false Next.Bad e q = rw (read_on, e, joined, q) (rw q)

    ill_standing : all_right true c.entries ≡ false → all_stand h (read_on image h c).entries ≡ false
    unfolding read_on joined
    ill_standing f = go (eqb (floor h) 0) c.last refl refl where
      more : (ds : List Entry) → all_stand h (c.entries ++ ds) ≡ false
      more ds = right_more c.entries ds f

      go : (t : Bool) (x : Next) → eqb (floor h) 0 ≡ t → c.last ≡ x → all_stand h (read_on image h c).entries ≡ false
      go true x e q = rw (read_on, e) (right_stand c.entries f)
      go false (Next.Record n d) e q = rw (read_on, e, joined, q) (right_stand c.entries f)
      go false Next.Wrap e q = rw (read_on, e, joined, q) (more _)
      go false Next.TornWrap e q = rw (read_on, e, joined, q) (right_stand c.entries f)
      go false Next.Clear e q = rw (read_on, e, joined, q) (right_stand c.entries f)
      go false Next.Over e q = rw (read_on, e, joined, q) (more _)
      go false Next.Bad e q = rw (read_on, e, joined, q) (right_stand c.entries f)

    five : fine true c ≡ false → walked name h (read_on image h c) ≡ refuse (numbered 5)
    unfolding fine
    five f = go (all_right true c.entries) refl where
      go : (t : Bool) → all_right true c.entries ≡ t → walked name h (read_on image h c) ≡ refuse (numbered 5)
      go true e = not_ended (read_on image h c) (ill_ended (rw (fine, e) at f))
      go false e = not_standing (read_on image h c) (ill_standing e)

  -- ---- where the chain of a stretch leads

  module _ (image : Image) (c : Chain) where
    no_turn : eqb (floor h) 0 ≡ true → read_on image h c ≡ read_straight (length image) h c
    unfolding read_on
    no_turn e = rw (read_on, e)

    at_clear : eqb (floor h) 0 ≡ false → c.last ≡ Next.Clear → read_on image h c ≡ read_straight (length image) h c
    unfolding read_on joined
    at_clear e q = rw (read_on, e, joined, q) (rw q)

    at_marker : eqb (floor h) 0 ≡ false → c.last ≡ Next.Wrap
        → read_on image h c ≡ read_turned (length image) h c (from_zero image h c.pending)
    unfolding read_on joined
    at_marker e q = rw (read_on, e, joined, q)

    at_end : eqb (floor h) 0 ≡ false → c.last ≡ Next.Over
        → read_on image h c ≡ read_turned (length image) h c (from_zero image h c.pending)
    unfolding read_on joined
    at_end e q = rw (read_on, e, joined, q)

  -- ---- two readings

  module _ (a b : Image) (l : length a ≡ length b) (c d : Chain) where
    abbrev One_answer : Type 0
    One_answer = walked name h (read_on a h c) ≡ walked name h (read_on b h d)

    both_five : fine true c ≡ false → fine true d ≡ false → One_answer
    both_five f g = five a c f ∙ sym (five b d g)

    ill_both : Same c d → ends_well c.last ≡ false → One_answer
    ill_both w f =
        not_ended (read_on a h c) (ill_ended a c f) ∙ sym (not_ended (read_on b h d) (ill_ended b d (sym (ap ends_well w.last) ∙ f)))

    -- no turn
    straight : Same c d → read_on a h c ≡ read_straight (length a) h c → read_on b h d ≡ read_straight (length b) h d → One_answer
    straight w p q =
        ap (walked name h) p
        ∙ walked_alike (read_straight (length a) h c) (read_straight (length b) h d) w.twins
        (ap (λ (x : Next). at_tail (ended x)) w.last)
        ∙ sym (ap (walked name h) q)

    -- the chain goes on at 0
    module _ (z : eqb (floor h) 0 ≡ false) (w : Same c d) (p : read_on a h c ≡ read_turned (length a) h c (from_zero a h c.pending))
        (q : read_on b h d ≡ read_turned (length b) h d (from_zero b h d.pending)) where
      abbrev u : Chain
      u = from_zero a h c.pending

      abbrev v : Chain
      v = from_zero b h d.pending

      five_turned : (r : Reading) (x y : Chain) (N : ℕ) → r ≡ read_turned N h x y → all_stand h (x.entries ++ y.entries) ≡ false
          → walked name h r ≡ refuse (numbered 5)
      five_turned r x y N e f = not_standing r (ap (λ (k : Reading). all_stand h k.entries) e ∙ f)

      not_zero : eqb 0 h ≡ false
      not_zero = ne_eqb 0 h (λ e. eqb-false (floor h) 0 z (ap (λ (i : ℕ). floor i) (sym e)))

      -- the first stretch fails
      first_fails : (x y : Chain) (s : List ℕ) (pd : Bool) (k : ℕ) → y ≡ chain k pd 0 s → all_stand h x.entries ≡ false
          → all_stand h (x.entries ++ y.entries) ≡ false
      first_fails x y s pd k e f = go x.entries refl f where
        go : (es : List Entry) → x.entries ≡ es → all_stand h es ≡ false → all_stand h (es ++ y.entries) ≡ false
        go [] r g = ap (λ (i : Chain). all_stand h i.entries) e ∙ zero_first k pd s not_zero
        go (i ∷ es) r g = stand_more i es y.entries g

      -- the second stretch fails
      second_fails : (r : Reading) (x y : Chain) (N : ℕ) → r ≡ read_turned N h x y → all_stand h x.entries ≡ true → fine false y ≡ false
          → walked name h r ≡ refuse (numbered 5)
      unfolding fine
      second_fails r x y N e s f = go (all_right false y.entries) refl where
        go : (t : Bool) → all_right false y.entries ≡ t → walked name h r ≡ refuse (numbered 5)
        go true i = not_ended r (ap (λ (k : Reading). at_tail k.ending) e ∙ ended_ill y.last (rw (fine, i) at f)) where
          ended_ill : (n : Next) → ends_well n ≡ false → at_tail (ended n) ≡ false
          ended_ill (Next.Record m k) g = refl
          ended_ill Next.Wrap g = wrong (sym g)
          ended_ill Next.TornWrap g = refl
          ended_ill Next.Clear g = wrong (sym g)
          ended_ill Next.Over g = wrong (sym g)
          ended_ill Next.Bad g = refl
        go false i = five_turned r x y N e (stand_behind x.entries y.entries s (sym (right_all y.entries) ∙ i))

      turned : (all_stand h c.entries ≡ true → Alike false u v) → One_answer
      turned second = go (all_stand h c.entries) refl where
        go : (t : Bool) → all_stand h c.entries ≡ t → One_answer
        go false f =
            five_turned (read_on a h c) c u (length a) p (first_fails c u _ _ _ refl f)
            ∙ sym (five_turned (read_on b h d) d v (length b) q
            (first_fails d v _ _ _ refl (sym (stand_alike h c.entries d.entries w.twins) ∙ f)))
        go true f = by (second f) where
          by : Alike false u v → One_answer
          by (inl g) =
              second_fails (read_on a h c) c u (length a) p f g.0
              ∙ sym (second_fails (read_on b h d) d v (length b) q (sym (stand_alike h c.entries d.entries w.twins) ∙ f) g.1)
          by (inr k) =
              ap (walked name h) p
              ∙ walked_alike (read_turned (length a) h c u) (read_turned (length b) h d v)
              (twins_append c.entries d.entries u.entries v.entries w.twins k.twins)
              (ap (λ (x : Next). at_tail (ended x)) k.last)
              ∙ sym (ap (walked name h) q)

    one_answer : Alike true c d
        → (Same c d → eqb (floor h) 0 ≡ false → all_stand h c.entries ≡ true → goes_round c.last ≡ true
        → Alike false (from_zero a h c.pending) (from_zero b h d.pending)) → One_answer
    one_answer (inl f) second = both_five f.0 f.1
    one_answer (inr w) second = go (eqb (floor h) 0) c.last refl refl where
      go : (t : Bool) (x : Next) → eqb (floor h) 0 ≡ t → c.last ≡ x → One_answer
      go true x e q = straight w (no_turn a c e) (no_turn b d e)
      go false (Next.Record n k) e q = ill_both w (ap ends_well q)
      go false Next.Wrap e q =
          turned e w (at_marker a c e q) (at_marker b d e (sym w.last ∙ q)) (λ s. second w e s (ap goes_round q))
      go false Next.TornWrap e q = ill_both w (ap ends_well q)
      go false Next.Clear e q = straight w (at_clear a c e q) (at_clear b d e (sym w.last ∙ q))
      go false Next.Over e q =
          turned e w (at_end a c e q) (at_end b d e (sym w.last ∙ q)) (λ s. second w e s (ap goes_round q))
      go false Next.Bad e q = ill_both w (ap ends_well q)

-- ---- THE theorem

module _ (a b : Image) (h : ℕ) (l : length a ≡ length b) (e : Each (SameBytes a b) (seen_from a h)) where
  abbrev K : ℕ
  K = suc (length a)

  abbrev rounds : Bool
  rounds = not (eqb (floor h) 0) && all_stand h (from_head a h).entries && goes_round (from_head a h).last

  abbrev second_seen : List Extent
  second_seen = elim rounds as (λ t. List Extent) [ true ↦ seen K false 0 (take (floor h) a) | false ↦ [] ]

  both_seen : Each (SameBytes a b) (seen K true h (drop h a) ++ second_seen)
  unfolding seen_from
  both_seen = e

  firsts : Agree K true h (drop h a) (drop h b)
  firsts =
      let p : take (length a) a ≡ a = take-length a in
      let q : take (length a) b ≡ b = ap (λ (n : ℕ). take n b) l ∙ take-length b in
      let g = each_left (SameBytes a b) (seen K true h (drop h a)) second_seen both_seen in
      let w : Agree K true h (drop h (take (length a) a)) (drop h (take (length a) b)) = agreed a b (length a) K true h
      (subst (λ (x : Image). Each (SameBytes a b) (seen K true h (drop h x))) (sym p) g) in
      subst (λ (x : Image). Agree K true h (drop h x) (drop h b)) p
      (subst (λ (x : Image). Agree K true h (drop h (take (length a) a)) (drop h x)) q w)

  first_alike : Alike true (from_head a h) (from_head b h)
  first_alike =
      subst (λ (n : ℕ). Alike true (from_head a h) (chain (suc n) false h (drop h b))) l
      (alike K true h (drop h a) (drop h b) (rw (length-drop, length-drop) (omega arith)) firsts)

  second_alike : Same (from_head a h) (from_head b h) → eqb (floor h) 0 ≡ false → all_stand h (from_head a h).entries ≡ true
      → goes_round (from_head a h).last ≡ true
      → Alike false (from_zero a h (from_head a h).pending) (from_zero b h (from_head b h).pending)
  second_alike w z s g =
      let t : rounds ≡ true = rw (z, s, g) in
      let x : Each (SameBytes a b) second_seen = each_right (SameBytes a b) (seen K true h (drop h a)) second_seen both_seen in
      let y : Each (SameBytes a b) (seen K false 0 (take (floor h) a)) =
      subst (λ (i : Bool). Each (SameBytes a b)
      (elim i as (λ j. List Extent) [ true ↦ seen K false 0 (take (floor h) a) | false ↦ [] ])) t x in
      let f : Agree K false 0 (take (floor h) a) (take (floor h) b) = agreed a b (floor h) K false 0 y in
      let v : Alike false (chain K false 0 (take (floor h) a)) (chain K false 0 (take (floor h) b)) = alike K false 0 (take (floor h) a)
      (take (floor h) b)
      (rw (length-take, length-take) (omega arith)) f in
      subst (λ (p : Bool). Alike false (chain K p 0 (take (floor h) a)) (from_zero b h (from_head b h).pending)) (sym w.shut.0)
      (subst (λ (p : Bool). Alike false (chain K false 0 (take (floor h) a)) (from_zero b h p)) (sym w.shut.1)
      (subst (λ (n : ℕ). Alike false (chain K false 0 (take (floor h) a)) (chain (suc n) false 0 (take (floor h) b))) l v))

  same_walk : (name : List ℕ) → walked name h (reading_from a h) ≡ walked name h (reading_from b h)
  same_walk name = one_answer name h a b l (from_head a h) (from_head b h) first_alike second_alike

  same_asked : (name : List ℕ) → length_asked name h a ≡ length_asked name h b
  unfolding length_asked length_from
  same_asked name =
      ap₂ (λ (n : ℕ) (x : Answer ℕ). checked (good_length n) (numbered 22)
      (checked (name_ok name) (misnamed name) (checked (head_fits n h) (numbered 5) x))) l (same_walk name)

  numbers_by : (x : Image) (p : Answer Plan) → (carry_out x 0 p).numbers ≡ (carry_out b 0 p).numbers
  unfolding carry_out
  numbers_by x (refuse n) = refl
  numbers_by x (give p) = refl

  pub one_length : (name : List ℕ) → (file_length a h name).numbers ≡ (file_length b h name).numbers
  unfolding file_length
  one_length name =
      numbers_by a (measured (length_asked name h a))
      ∙ ap (λ (x : Answer ℕ). (carry_out b 0 (measured x)).numbers) (same_asked name)
