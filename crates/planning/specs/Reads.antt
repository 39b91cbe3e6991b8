-- What is read from a head on, as rows of records by addresses (Reads): every reading that is not broken is one of three forms, and each
-- form is read as it says. So a law on rows is a law on readings, on every image.
use Rattle.std.specs.Prelude.{ℕ, suc, ◌+◌, ◌-◌, ◌≤◌, ◌≡◌, Bool, List, [], ◌∷◌, ◌++◌, length, drop, eqb}
use Rattle.std.proofs.Common.{arith, sym, ◌∙◌, subst}
use Rattle.std.proofs.Math.Path.{refl, ap}
use Rattle.std.proofs.Math.Bool.{true, false}
use Rattle.std.proofs.lemmas.Bool.{false≢true}
use Rattle.std.proofs.Math.Seq.{take-length}
use borrow.Author.Tests.{eq-eqb, ne_eqb, eqb-true, eqb-false}
use Rattle.spec.specs.declared.Next.{Next}
use Rattle.spec.specs.declared.Ending.{Ending}
use Rattle.spec.specs.Step.{Image}
use Rattle.spec.specs.Basics.{part}
use Rattle.spec.specs.Geometry.{floor}
use Rattle.spec.specs.Record.{Entry}
use Rattle.spec.specs.Chain.{Chain, add, stop, chain, Reading, ended, read, read_straight, read_turned, joined, from_head, from_zero}
use Rattle.spec.specs.Chain.{read_on, reading_from}
use Rattle.spec.specs.Reading.{whole}
use Rattle.laws.specs.Next.{NotRecord}
use Rattle.laws.specs.Chain.{chain_stop}
use Rattle.planning.specs.Kinds.{tag}
use Rattle.planning.specs.Row.{Row, before, chain_row, row_end, Chained, chained}
use Rattle.planning.specs.Stops.{Stop, EndsHere, here_clear, here_over, Turns, turn_wrap, turn_over, EndsLow, low_clear, low_over}
use Rattle.planning.specs.Stops.{here_tag, turn_tag, low_tag}

-- ---- the chain of a stretch, to its end

abbrev pub chain_of : List Entry → Bool → ℕ → Next → Chain
chain_of es o t x = record { entries = es; pending = o; tail = t; last = x }

before_stop : (es : List Entry) (o : Bool) (t : ℕ) (x : Next) → before es (stop o t x) ≡ chain_of es o t x
before_stop [] o t x = refl
before_stop (e ∷ es) o t x = ap (λ (c : Chain). add e c) (before_stop es o t x)

pub whole_chain : {im : Image} {lim : ℕ} {o : Bool} {a : ℕ} {es : List Entry} {p : Bool} {b : ℕ} (x : Next) → lim ≤ length im → a ≤ lim
    → Row im lim o a es p b → Stop im lim p b x → NotRecord x → chain (suc (length im)) o a (part a lim im) ≡ chain_of es p b x
whole_chain {im} {lim} {o} {a} {es} {p} {b} x l h r s z =
    let e = row_end h r in
    let m : ℕ = length im - length es in
    let k : suc (length im) ≡ length es + suc m = omega (arith, e.0, e.1) in
    ap (λ (n : ℕ). chain n o a (part a lim im)) k ∙ chain_row (suc m) l r ∙ ap (before es) (chain_stop m p b (part b lim im) x z s)
    ∙ before_stop es p b x

-- ---- the three forms

-- from the head h on, r is read: rows, what stands behind them, and r as it is made of them
pub data Reads (im : Image) (h : ℕ) (r : Reading) : Type 0 where
  -- before the turn
  reads_here :
      {es : List Entry} {p : Bool} {T : ℕ} {x : Next} → Row im (length im) false h es p T → Stop im (length im) p T x
      → EndsHere (floor h) x
      → r ≡ read (length im) h T false es Ending.Tail → Reads im h r
  -- after it
  reads_round :
      {es fs : List Entry} {p q : Bool} {b T : ℕ} {x y : Next} → Row im (length im) false h es p b → Stop im (length im) p b x → Turns x
      → (floor h ≡ 0 → ⊥) → Row im (floor h) p 0 fs q T → Stop im (floor h) q T y → EndsLow y
      → r ≡ read (length im) h T true (es ++ fs) Ending.Tail → Reads im h r
  -- with a torn wrap
  reads_torn :
      {es : List Entry} {p : Bool} {b : ℕ} → Row im (length im) false h es p b → Stop im (length im) p b Next.TornWrap → (floor h ≡ 0 → ⊥)
      → r ≡ read (length im) h 0 true es (Ending.TornWrap b) → Reads im h r

-- ---- each is read as it says

head_part : (im : Image) (h : ℕ) → drop h im ≡ part h (length im) im
head_part im h = ap (drop h) (sym (take-length im))

pub head_chain : {im : Image} {h : ℕ} {es : List Entry} {p : Bool} {b : ℕ} (x : Next) → h ≤ length im → Row im (length im) false h es p b
    → Stop im (length im) p b x → NotRecord x → from_head im h ≡ chain_of es p b x
head_chain {im} {h} x l r s z = ap (chain (suc (length im)) false h) (head_part im h) ∙ whole_chain x (omega arith) l r s z

low_chain : {im : Image} {h : ℕ} {o : Bool} {es : List Entry} {p : Bool} {b : ℕ} (x : Next) → h ≤ length im → Row im (floor h) o 0 es p b
    → Stop im (floor h) p b x → NotRecord x → from_zero im h o ≡ chain_of es p b x
low_chain x l r s z = whole_chain x (omega arith) (omega arith) r s z

module _ (im : Image) (h : ℕ) (c : Chain) where
  on_zero : floor h ≡ 0 → read_on im h c ≡ read_straight (length im) h c
  unfolding read_on
  on_zero e = rw (read_on, eq-eqb (floor h) 0 e)

  on_more : (floor h ≡ 0 → ⊥) → read_on im h c ≡ joined (length im) h c (from_zero im h c.pending)
  unfolding read_on
  on_more e = rw (read_on, ne_eqb (floor h) 0 e)

low_ended : {x : Next} → EndsLow x → ended x ≡ Ending.Tail
low_ended low_clear = refl
low_ended low_over = refl

module _ (im : Image) (h : ℕ) where
  here_read : (es : List Entry) (p : Bool) (T : ℕ) (x : Next) → EndsHere (floor h) x → (z : Bool) → eqb (floor h) 0 ≡ z
      → read_on im h (chain_of es p T x) ≡ read (length im) h T false es Ending.Tail
  unfolding joined
  here_read es p T x here_clear true e = on_zero im h (chain_of es p T Next.Clear) (eqb-true (floor h) 0 e)
  here_read es p T x here_clear false e = on_more im h (chain_of es p T Next.Clear) (eqb-false (floor h) 0 e)
  here_read es p T x (here_over q) z e = on_zero im h (chain_of es p T Next.Over) q

  round_read : (es fs : List Entry) (p q : Bool) (b T : ℕ) (x y : Next) → Turns x → EndsLow y → (floor h ≡ 0 → ⊥)
      → from_zero im h p ≡ chain_of fs q T y → read_on im h (chain_of es p b x) ≡ read (length im) h T true (es ++ fs) Ending.Tail
  unfolding joined
  round_read es fs p q b T x y turn_wrap m n e =
      on_more im h (chain_of es p b Next.Wrap) n ∙ ap (read_turned (length im) h (chain_of es p b Next.Wrap)) e
      ∙ ap (read (length im) h T true (es ++ fs)) (low_ended m)
  round_read es fs p q b T x y turn_over m n e =
      on_more im h (chain_of es p b Next.Over) n ∙ ap (read_turned (length im) h (chain_of es p b Next.Over)) e
      ∙ ap (read (length im) h T true (es ++ fs)) (low_ended m)

  torn_read : (es : List Entry) (p : Bool) (b : ℕ) → (floor h ≡ 0 → ⊥)
      → read_on im h (chain_of es p b Next.TornWrap) ≡ read (length im) h 0 true es (Ending.TornWrap b)
  unfolding joined
  torn_read es p b n = on_more im h (chain_of es p b Next.TornWrap) n

-- what ends or turns a chain is no record
pub stopping : (x : Next) → 1 ≤ tag x → NotRecord x
stopping (Next.Record n d) h = absurd (omega arith)
stopping Next.Wrap h = tt
stopping Next.TornWrap h = tt
stopping Next.Clear h = tt
stopping Next.Over h = tt
stopping Next.Bad h = tt

pub reads_reading : {im : Image} {h : ℕ} {r : Reading} → h ≤ length im → Reads im h r → reading_from im h ≡ r
reads_reading {im} {h} l (reads_here {es = es} {p = p} {T = T} {x = x} w s e q) =
    ap (read_on im h) (head_chain x l w s (stopping x (omega (arith, (here_tag e).0)))) ∙ here_read im h es p T x e _ refl ∙ sym q
reads_reading {im} {h} l (reads_round {es = es} {fs = fs} {p = p} {q = q} {b = b} {T = T} {x = x} {y = y} w s t n v u m e) =
    ap (read_on im h) (head_chain x l w s (stopping x (turn_tag t).0))
    ∙ round_read im h es fs p q b T x y t m n (low_chain y l v u (stopping y (omega (arith, (low_tag m).0)))) ∙ sym e
reads_reading {im} {h} l (reads_torn {es = es} {p = p} {b = b} w s n e) =
    ap (read_on im h) (head_chain Next.TornWrap l w s tt) ∙ torn_read im h es p b n ∙ sym e

-- ---- and every reading that is not broken is one of them

ended_low : (x : Next) → whole (ended x) ≡ true → EndsLow x
ended_low (Next.Record n d) w = absurd (false≢true w)
ended_low Next.Wrap w = absurd (false≢true w)
ended_low Next.TornWrap w = absurd (false≢true w)
ended_low Next.Clear w = low_clear
ended_low Next.Over w = low_over
ended_low Next.Bad w = absurd (false≢true w)

low_here : {f : ℕ} {x : Next} → f ≡ 0 → EndsLow x → EndsHere f x
low_here z low_clear = here_clear
low_here z low_over = here_over z

here_ended : {f : ℕ} {x : Next} → EndsHere f x → ended x ≡ Ending.Tail
here_ended here_clear = refl
here_ended (here_over z) = refl

module _ (im : Image) (h : ℕ) (l : h ≤ length im) where
  abbrev high : Chain
  high = from_head im h

  abbrev low : Chain
  low = from_zero im h high.pending

  high_row : tag high.last ≤ 4 → Chained im (length im) false h high
  high_row k =
      subst (λ (c : Chain). Chained im (length im) false h c) (ap (chain (suc (length im)) false h) (sym (head_part im h)))
      (chained im (length im) (omega arith) (suc (length im)) false h l
      (λ z.
      let e : high.last ≡ Next.Bad = ap (λ (s : List ℕ). (chain (suc (length im)) false h s).last) (head_part im h) ∙ z in
      omega (arith, ap tag e)))

  straight : EndsHere (floor h) high.last → reading_from im h ≡ read_straight (length im) h high → Reads im h (reading_from im h)
  straight m q =
      let c = high_row (here_tag m).1 in
      reads_here c.row c.last m (q ∙ ap (read (length im) h high.tail false high.entries) (here_ended m))

  round : Turns high.last → (floor h ≡ 0 → ⊥) → reading_from im h ≡ read_turned (length im) h high low
      → whole (reading_from im h).ending ≡ true → Reads im h (reading_from im h)
  round t n q w =
      let m : EndsLow low.last = ended_low low.last (sym (ap (λ (r : Reading). whole r.ending) q) ∙ w) in
      let c = high_row (turn_tag t).1 in
      let v =
      chained im (floor h) (omega arith) (suc (length im)) high.pending 0 (omega arith) (λ z. omega (arith, ap tag z, (low_tag m).1)) in
      reads_round c.row c.last t n v.row v.last m
      (q ∙ ap (read (length im) h low.tail true (high.entries ++ low.entries)) (low_ended m))

  -- with floor(h) = 0
  none : floor h ≡ 0 → whole (reading_from im h).ending ≡ true → Reads im h (reading_from im h)
  none z w =
      let q = on_zero im h high z in
      straight (low_here z (ended_low high.last (sym (ap (λ (r : Reading). whole r.ending) q) ∙ w))) q

  -- with floor(h) > 0, where the first stretch ends with x
  module _ (n : floor h ≡ 0 → ⊥) (w : whole (reading_from im h).ending ≡ true) where
    abbrev ending_with : Next → Reading
    ending_with x = joined (length im) h (chain_of high.entries high.pending high.tail x) low

    joined_is : (x : Next) → high.last ≡ x → reading_from im h ≡ ending_with x
    joined_is x e = on_more im h high n ∙ ap ending_with e

    broken : {A : Type 0} (x : Next) → high.last ≡ x → (ending_with x).ending ≡ Ending.Broken → A
    broken x e b = absurd (false≢true (sym (ap (λ (r : Reading). whole r.ending) (joined_is x e) ∙ ap whole b) ∙ w))

    more : (x : Next) → high.last ≡ x → Reads im h (reading_from im h)
    unfolding joined
    more (Next.Record m d) e = broken (Next.Record m d) e refl
    more Next.Wrap e = round (subst Turns (sym e) turn_wrap) n (joined_is Next.Wrap e) w
    more Next.TornWrap e =
        let c = high_row (omega (arith, ap tag e)) in
        reads_torn c.row (c.last ∙ e) n (joined_is Next.TornWrap e)
    more Next.Clear e =
        straight (subst (EndsHere (floor h)) (sym e) here_clear)
        (joined_is Next.Clear e
        ∙ ap (λ (x : Next). read_straight (length im) h (chain_of high.entries high.pending high.tail x)) (sym e))
    more Next.Over e = round (subst Turns (sym e) turn_over) n (joined_is Next.Over e) w
    more Next.Bad e = broken Next.Bad e refl

  pub reading_reads : whole (reading_from im h).ending ≡ true → Reads im h (reading_from im h)
  reading_reads w = go (eqb (floor h) 0) refl where
    go : (z : Bool) → eqb (floor h) 0 ≡ z → Reads im h (reading_from im h)
    go true e = none (eqb-true (floor h) 0 e) w
    go false e = more (eqb-false (floor h) 0 e) w _ refl
