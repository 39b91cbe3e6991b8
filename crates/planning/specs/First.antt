-- The first records of a reading: where the head's record stands, and the record behind it.
use Rattle.std.specs.Prelude.{ℕ, ◌+◌, ◌≤◌, ◌<◌, ◌≡◌, refl, Bool, true, false, List, [], ◌∷◌, ◌++◌, length, get_or}
use Rattle.std.proofs.Common.{arith, sym, ap, ap₂, ◌∙◌, subst, ⊎_elim}
use Rattle.std.proofs.lemmas.Bool.{false≢true}
use Rattle.spec.specs.declared.Next.{Next}
use Rattle.spec.specs.declared.Ending.{Ending}
use Rattle.spec.specs.Step.{Image}
use Rattle.spec.specs.Basics.{part}
use Rattle.spec.specs.Geometry.{floor}
use Rattle.spec.specs.Bytes.{is_unfinished}
use Rattle.spec.specs.Record.{Entry, size}
use Rattle.spec.specs.Next.{next}
use Rattle.spec.specs.Chain.{Reading, read, allowed}
use Rattle.laws.specs.Lists.{cons_first, cons_rest}
use Rattle.laws.specs.Head.{Low}
use Rattle.planning.specs.Kinds.{tag, Recordish, low_lowly, lowly_recordish}
use Rattle.planning.specs.Row.{Stands, Row, row_none, row_more}
use Rattle.planning.specs.Frame.{row_le}
use Rattle.planning.specs.Spots.{next_kind}
use Rattle.planning.specs.Stops.{Stop, EndsHere, Turns, EndsLow, here_tag, turn_tag}
use Rattle.planning.specs.Reads.{Reads, reads_here, reads_round, reads_torn}

-- ---- a row taken apart

-- the first record of a row, and the row behind it
pub record Cons (im : Image) (lim : ℕ) (o : Bool) (a : ℕ) (e : Entry) (es : List Entry) (p : Bool) (b : ℕ) : Type 0 where
  pub pending : o ≡ false
  pub at : e.at ≡ a
  pub stands : Stands im lim e
  pub rest : Row im lim (is_unfinished e.it.status) (a + size e) es p b

pub row_cons : {im : Image} {lim : ℕ} {o : Bool} {a : ℕ} {e : Entry} {es : List Entry} {p : Bool} {b : ℕ} → Row im lim o a (e ∷ es) p b
    → Cons im lim o a e es p b
row_cons (row_more e q w r) = record { pending = refl; at = q; stands = w; rest = r }

pub row_nil : {im : Image} {lim : ℕ} {o : Bool} {a : ℕ} {p : Bool} {b : ℕ} → Row im lim o a [] p b → (p ≡ o) × (b ≡ a)
row_nil row_none = (refl, refl)

-- ---- at the head stands a record

pub head_recordish : (im : Image) (h : ℕ) → h + 8 ≤ length im → Low (get_or im h 0) → Recordish (next (part h (length im) im))
head_recordish im h l b =
    subst Recordish (sym (next_kind im h (length im) (omega arith) l))
    (lowly_recordish (get_or im h 0) (get_or im (h + 1) 0) (get_or im (h + 2) 0) (get_or im (h + 3) 0) (part h (length im) im)
    (low_lowly (get_or im h 0) b))

-- so what is read from there on is not empty
module _ {im : Image} {h : ℕ} (ish : Recordish (next (part h (length im) im))) where
  pub filled : {A : Type 0} {p : Bool} {b : ℕ} {x : Next} → Row im (length im) false h [] p b → Stop im (length im) p b x → 1 ≤ tag x
      → tag x ≤ 4 → A
  filled {x = x} row s m n =
      let z = row_nil row in
      let e : next (part h (length im) im) ≡ x =
      sym (ap₂ (λ (o : Bool) (a : ℕ). allowed o (next (part a (length im) im))) z.0 z.1) ∙ s in
      absurd (⊎_elim (λ (q : tag (next (part h (length im) im)) ≡ 0). omega (arith, ap tag e))
      (λ (q : tag (next (part h (length im) im)) ≡ 5). omega (arith, ap tag e)) ish)

  pub reads_filled : {r : Reading} → Reads im h r → r.entries ≡ [] → ⊥
  reads_filled (reads_here {es = []} row s m e) q = filled row s (omega (arith, (here_tag m).0)) (here_tag m).1
  reads_filled (reads_here {es = u ∷ us} row s m e) q = omega (arith, ap length (sym (ap (λ (z : Reading). z.entries) e) ∙ q))
  reads_filled (reads_torn {es = []} row s n e) q = filled row s (omega arith) (omega arith)
  reads_filled (reads_torn {es = u ∷ us} row s n e) q = omega (arith, ap length (sym (ap (λ (z : Reading). z.entries) e) ∙ q))
  reads_filled (reads_round {es = []} row s t n rows k m e) q = filled row s (turn_tag t).0 (turn_tag t).1
  reads_filled (reads_round {es = u ∷ us} row s t n rows k m e) q = omega (arith, ap length (sym (ap (λ (z : Reading). z.entries) e) ∙ q))

-- ---- the place of a reading

pub reads_head : {im : Image} {h : ℕ} {r : Reading} → Reads im h r → (r.place.head ≡ h) × (r.place.length ≡ length im)
reads_head (reads_here row s m e) = (ap (λ (z : Reading). z.place.head) e, ap (λ (z : Reading). z.place.length) e)
reads_head (reads_round row s t n rows k m e) = (ap (λ (z : Reading). z.place.head) e, ap (λ (z : Reading). z.place.length) e)
reads_head (reads_torn row s n e) = (ap (λ (z : Reading). z.place.head) e, ap (λ (z : Reading). z.place.length) e)

-- ---- the first record

-- the head's record X: before the turn, with a torn wrap behind it, after the turn
pub data One (im : Image) (h : ℕ) (r : Reading) (x : Entry) (es : List Entry) : Type 0 where
  one_here :
      {p : Bool} {T : ℕ} {z : Next} → Row im (length im) false h (x ∷ es) p T → Stop im (length im) p T z → EndsHere (floor h) z
      → r ≡ read (length im) h T false (x ∷ es) Ending.Tail → One im h r x es
  one_torn :
      {p : Bool} {b : ℕ} → Row im (length im) false h (x ∷ es) p b → Stop im (length im) p b Next.TornWrap → (floor h ≡ 0 → ⊥)
      → r ≡ read (length im) h 0 true (x ∷ es) (Ending.TornWrap b) → One im h r x es
  one_round :
      {us vs : List Entry} {p q : Bool} {b T : ℕ} {z v : Next} → Row im (length im) false h (x ∷ us) p b → Stop im (length im) p b z
      → Turns z
      → (floor h ≡ 0 → ⊥) → Row im (floor h) p 0 vs q T → Stop im (floor h) q T v → EndsLow v → us ++ vs ≡ es
      → r ≡ read (length im) h T true (x ∷ es) Ending.Tail → One im h r x es

module _ {im : Image} {h : ℕ} {x : Entry} {es : List Entry} (ish : Recordish (next (part h (length im) im))) where
  pub one_of : {r : Reading} → Reads im h r → r.entries ≡ x ∷ es → One im h r x es
  one_of (reads_here {es = us} {p = p} {T = T} row s m e) q =
      let f : us ≡ x ∷ es = sym (ap (λ (z : Reading). z.entries) e) ∙ q in
      one_here (subst (λ (l : List Entry). Row im (length im) false h l p T) f row) s m
      (e ∙ ap (λ (l : List Entry). read (length im) h T false l Ending.Tail) f)
  one_of (reads_torn {es = us} {p = p} {b = b} row s n e) q =
      let f : us ≡ x ∷ es = sym (ap (λ (z : Reading). z.entries) e) ∙ q in
      one_torn (subst (λ (l : List Entry). Row im (length im) false h l p b) f row) s n
      (e ∙ ap (λ (l : List Entry). read (length im) h 0 true l (Ending.TornWrap b)) f)
  one_of (reads_round {es = []} row s t n rows k m e) q = filled ish row s (turn_tag t).0 (turn_tag t).1
  one_of (reads_round {es = u ∷ us} {fs = vs} {p = p} {b = b} {T = T} row s t n rows k m e) q =
      let f : u ∷ (us ++ vs) ≡ x ∷ es = sym (ap (λ (z : Reading). z.entries) e) ∙ q in
      one_round (subst (λ (a : Entry). Row im (length im) false h (a ∷ us) p b) (cons_first f) row) s t n rows k m (cons_rest f)
      (e ∙ ap (λ (l : List Entry). read (length im) h T true l Ending.Tail) f)

-- it stands at the head, and what is before the turn ends behind it
pub record FirstAt (im : Image) (h : ℕ) (r : Reading) (x : Entry) : Type 0 where
  pub at : x.at ≡ h
  pub stands : Stands im (length im) x
  pub past : r.place.turned ≡ false → h < r.place.tail

pub first_at : {im : Image} {h : ℕ} {r : Reading} {x : Entry} {es : List Entry} → One im h r x es → FirstAt im h r x
first_at (one_here row s m e) =
    let c = row_cons row in
    record { at = c.at; stands = c.stands; past = λ t. omega (arith, row_le c.rest, ap (λ (z : Reading). z.place.tail) e) }
first_at (one_torn row s n e) =
    let c = row_cons row in
    record { at = c.at; stands = c.stands; past = λ t. absurd (false≢true (sym t ∙ ap (λ (z : Reading). z.place.turned) e)) }
first_at (one_round row s t n rows k m f e) =
    let c = row_cons row in
    record { at = c.at; stands = c.stands; past = λ t. absurd (false≢true (sym t ∙ ap (λ (z : Reading). z.place.turned) e)) }

-- ---- the first two

-- the head's record X, the next record Y: before the turn, with a torn wrap behind them, after the turn, with the turn between them
pub data Pair (im : Image) (h : ℕ) (r : Reading) (x y : Entry) (es : List Entry) : Type 0 where
  pair_here :
      {p : Bool} {T : ℕ} {z : Next} → Row im (length im) false h (x ∷ (y ∷ es)) p T → Stop im (length im) p T z → EndsHere (floor h) z
      → r ≡ read (length im) h T false (x ∷ (y ∷ es)) Ending.Tail → Pair im h r x y es
  pair_torn :
      {p : Bool} {b : ℕ} → Row im (length im) false h (x ∷ (y ∷ es)) p b → Stop im (length im) p b Next.TornWrap → (floor h ≡ 0 → ⊥)
      → r ≡ read (length im) h 0 true (x ∷ (y ∷ es)) (Ending.TornWrap b) → Pair im h r x y es
  pair_round :
      {us vs : List Entry} {p q : Bool} {b T : ℕ} {z v : Next} → Row im (length im) false h (x ∷ (y ∷ us)) p b → Stop im (length im) p b z
      → Turns z → (floor h ≡ 0 → ⊥) → Row im (floor h) p 0 vs q T → Stop im (floor h) q T v → EndsLow v → us ++ vs ≡ es
      → r ≡ read (length im) h T true (x ∷ (y ∷ es)) Ending.Tail → Pair im h r x y es
  pair_low :
      {p q : Bool} {b T : ℕ} {z v : Next} → Row im (length im) false h (x ∷ []) p b → Stop im (length im) p b z → Turns z
      → (floor h ≡ 0 → ⊥)
      → Row im (floor h) p 0 (y ∷ es) q T → Stop im (floor h) q T v → EndsLow v
      → r ≡ read (length im) h T true (x ∷ (y ∷ es)) Ending.Tail → Pair im h r x y es

module _ {im : Image} {h : ℕ} {x y : Entry} {es : List Entry} where
  round_pair : (us vs : List Entry) {r : Reading} {p q : Bool} {b T : ℕ} {z v : Next} → Row im (length im) false h (x ∷ us) p b
      → Stop im (length im) p b z → Turns z → (floor h ≡ 0 → ⊥) → Row im (floor h) p 0 vs q T → Stop im (floor h) q T v → EndsLow v
      → us ++ vs ≡ y ∷ es → r ≡ read (length im) h T true (x ∷ (y ∷ es)) Ending.Tail → Pair im h r x y es
  round_pair [] [] row s t n rows k m f e = absurd (omega (arith, ap length f))
  round_pair [] (w ∷ ws) {r} {p} {q} {b} {T} row s t n rows k m f e =
      pair_low row s t n (subst (λ (l : List Entry). Row im (floor h) p 0 l q T) f rows) k m e
  round_pair (w ∷ ws) vs {r} {p} {q} {b} {T} row s t n rows k m f e =
      pair_round (subst (λ (a : Entry). Row im (length im) false h (x ∷ (a ∷ ws)) p b) (cons_first f) row) s t n rows k m (cons_rest f) e

  pub pair_of : {r : Reading} → One im h r x (y ∷ es) → Pair im h r x y es
  pair_of (one_here row s m e) = pair_here row s m e
  pair_of (one_torn row s n e) = pair_torn row s n e
  pair_of (one_round {us = us} {vs = vs} row s t n rows k m f e) = round_pair us vs row s t n rows k m f e
