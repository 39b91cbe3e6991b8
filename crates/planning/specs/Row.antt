-- Records of an image one after another, by addresses: what the chain of a stretch reads, on every image. Of no byte outside them is
-- anything said.
use Rattle.std.specs.Prelude.{ℕ, zero, suc, ◌+◌, ◌*◌, ◌≤◌, ◌<◌, ◌≡◌, refl, Bool, true, false, List, [], ◌∷◌, length, take, drop, get_or}
use Rattle.std.proofs.Common.{arith, zero-add, suc-add, add-zero, sym, ap, ap₂, ◌∙◌, subst, length-drop, get_or-drop, get_or-take, drop-drop, length-take-le, ext_get_or}
use Rattle.spec.specs.declared.Next.{Next}
use Rattle.spec.specs.declared.Kind.{Kind}
use Rattle.spec.specs.Step.{Image}
use Rattle.spec.specs.Basics.{part}
use Rattle.spec.specs.Geometry.{up8}
use Rattle.spec.specs.Bytes.{is_unfinished}
use Rattle.spec.specs.Record.{size_of, Rec, rec_of, Entry, name_of, content_of, size, data_at, status_of}
use Rattle.spec.specs.Next.{next, kind}
use Rattle.spec.specs.Chain.{Chain, add, allowed, chain}
use Rattle.laws.specs.Next.{NotRecord}
use Rattle.laws.specs.Fits.{Fits, allowed_fits}
use Rattle.laws.specs.Chain.{chain_record, chain_stop}
use Rattle.planning.specs.Front.{kind_of}
use Rattle.planning.specs.Kinds.{tag}

-- ---- a stretch and its bytes

pub stretch_length : (im : Image) (a lim : ℕ) → a ≤ lim → lim ≤ length im → a + length (part a lim im) ≡ lim
stretch_length im a lim h l = rw (length-drop, length-take-le lim im l) (omega arith)

pub stretch_byte : (im : Image) (a lim i : ℕ) → a + i < lim → get_or (part a lim im) i 0 ≡ get_or im (a + i) 0
stretch_byte im a lim i h = get_or-drop a (take lim im) i 0 ∙ get_or-take lim im (a + i) 0 h

pub stretch_past : (im : Image) (a lim s : ℕ) → drop s (part a lim im) ≡ part (a + s) lim im
stretch_past im a lim s = drop-drop s a (take lim im)

-- the kind of what stands at a
abbrev pub kind_at : Image → ℕ → Kind
kind_at im a = kind (get_or im a 0) (get_or im (a + 1) 0) (get_or im (a + 2) 0) (get_or im (a + 3) 0)

pub kind_stretch : (im : Image) (a lim : ℕ) → a + 4 ≤ lim → kind_of (part a lim im) ≡ kind_at im a
kind_stretch im a lim h =
    rw (
      stretch_byte im a lim 0 (omega arith),
      stretch_byte im a lim 1 (omega arith),
      stretch_byte im a lim 2 (omega arith),
      stretch_byte im a lim 3
          (omega arith),
      add-zero,
    )

-- ---- one record

-- the chain of the stretch that ends at lim reads the record e
pub record Stands (im : Image) (lim : ℕ) (e : Entry) : Type 0 where
  pub reads : next (part e.at lim im) ≡ Next.Record (length (name_of e)) (length (content_of e))
  pub fits : e.at + size e ≤ lim
  pub low : get_or im e.at 0 ≡ e.it.low
  pub status : get_or im (e.at + 2) 0 ≡ e.it.status
  pub name : (i : ℕ) → i < length (name_of e) → get_or im (e.at + (8 + i)) 0 ≡ get_or (name_of e) i 0
  pub content : (i : ℕ) → i < length (content_of e) → get_or im (data_at e + i) 0 ≡ get_or (content_of e) i 0

-- of the front of a stretch
module _ (im : Image) (a lim n d : ℕ) (l : lim ≤ length im) (o : a ≤ lim) (h : next (part a lim im) ≡ Next.Record n d) where
  abbrev here : List ℕ
  here = part a lim im

  front_fits : size_of n d ≤ length here
  front_fits = let f : Fits (next here) (length here) = allowed_fits false here in rw h at f

  front_end : a + size_of n d ≤ lim
  front_end = omega (arith, front_fits, stretch_length im a lim o l)

  abbrev front : Entry
  front = record { at = a; it = rec_of here n d }

  front_name : length (name_of front) ≡ n
  front_name = length-take-le n (drop 8 here) (rw length-drop (omega (arith, front_fits)))

  front_content : length (content_of front) ≡ d
  front_content = length-take-le d (drop (up8 (n + 1)) (drop 8 here)) (rw (length-drop, length-drop) (omega (arith, front_fits)))

  pub front_size : size front ≡ size_of n d
  front_size = ap₂ size_of front_name front_content

  pub front_stands : Stands im lim front
  front_stands =
      record {
        reads = h ∙ sym (ap₂ Next.Record front_name front_content);
        fits = omega (arith, front_end, front_size);
        low = sym (stretch_byte im a lim 0 (omega (arith, front_end)) ∙ ap (λ (i : ℕ). get_or im i 0) (add-zero a));
        status = sym (stretch_byte im a lim 2 (omega (arith, front_end)));
        name =
            λ i g.
            sym (get_or-take n (drop 8 here) i 0 (omega (arith, front_name)) ∙ get_or-drop 8 here i 0
            ∙ stretch_byte im a lim (8 + i) (omega (arith, front_end, front_name)));
        content =
            λ i g.
            let m : ℕ = up8 (length (name_of front) + 1) in
            let q : m ≡ up8 (n + 1) = ap (λ (k : ℕ). up8 (k + 1)) front_name in
            sym (get_or-take d (drop (up8 (n + 1)) (drop 8 here)) i 0 (omega (arith, front_content))
            ∙ get_or-drop (up8 (n + 1)) (drop 8 here) i 0
            ∙ get_or-drop 8 here (up8 (n + 1) + i) 0
            ∙ stretch_byte im a lim (8 + (up8 (n + 1) + i)) (omega (arith, front_end, front_content))
            ∙ ap (λ (k : ℕ). get_or im k 0) (omega (arith, q)));
      }

-- and back
pub stands_rec : {im : Image} {lim : ℕ} {e : Entry} → lim ≤ length im → Stands im lim e
    → rec_of (part e.at lim im) (length (name_of e)) (length (content_of e)) ≡ e.it
stands_rec {im} {lim} {e} l w =
    let a : ℕ = e.at in
    let n : ℕ = length (name_of e) in
    let d : ℕ = length (content_of e) in
    let f = front_stands im a lim n d l (omega (arith, w.fits)) w.reads in
    let r : Rec = rec_of (part a lim im) n d in
    let nl : length r.name ≡ n = front_name im a lim n d l (omega (arith, w.fits)) w.reads in
    let dl : length r.content ≡ d = front_content im a lim n d l (omega (arith, w.fits)) w.reads in
    let low : r.low ≡ e.it.low = sym f.low ∙ w.low in
    let status : r.status ≡ e.it.status = sym f.status ∙ w.status in
    let name : r.name ≡ name_of e = ext_get_or 0 r.name (name_of e) nl (λ i g. sym (f.name i g) ∙ w.name i (omega arith)) in
    let same : (i : ℕ) → i < length r.content → get_or r.content i 0 ≡ get_or (content_of e) i 0 =
    λ i g.
    sym (f.content i g) ∙ ap (λ (k : ℕ). get_or im (a + (8 + up8 (k + 1)) + i) 0) nl ∙ w.content i (omega arith) in
    let content : r.content ≡ content_of e = ext_get_or 0 r.content (content_of e) dl same in
    ap₂ (λ (b c : ℕ). record { low = b; status = c; name = r.name; content = r.content }) low status
    ∙ ap₂ (λ (b c : List ℕ). record { low = e.it.low; status = e.it.status; name = b; content = c }) name content

-- ---- records one after another

-- from a on up to b the records es stand one after another; o and p: whether an unfinished one stands before a, and before b
pub data Row (im : Image) (lim : ℕ) : Bool → ℕ → List Entry → Bool → ℕ → Type 0 where
  row_none : {o : Bool} {a : ℕ} → Row im lim o a [] o a
  row_more : {a : ℕ} {p : Bool} {b : ℕ} {es : List Entry} (e : Entry) → e.at ≡ a → Stands im lim e
      → Row im lim (is_unfinished e.it.status) (a + size e) es p b
      → Row im lim false a (e ∷ es) p b

-- a chain with entries in front
abbrev pub before : List Entry → Chain → Chain
before [] c = c
before (e ∷ es) c = add e (before es c)

chain_stands : {im : Image} {lim : ℕ} (e : Entry) (k : ℕ) → lim ≤ length im → Stands im lim e
    → chain (suc k) false e.at (part e.at lim im)
    ≡ add e (chain k (is_unfinished e.it.status) (e.at + size e) (part (e.at + size e) lim im))
chain_stands {im} {lim} e k l w =
    let s : List ℕ = part e.at lim im in
    let st : status_of s ≡ e.it.status = stretch_byte im e.at lim 2 (omega (arith, w.fits)) ∙ w.status in
    chain_record k false e.at s (length (name_of e)) (length (content_of e)) w.reads
    ∙ ap₂ (λ (r : Rec) (c : Chain). add (record { at = e.at; it = r }) c) (stands_rec l w)
    (ap₂ (λ (b : Bool) (t : List ℕ). chain k b (e.at + size e) t) (ap is_unfinished st) (stretch_past im e.at lim (size e)))

-- the chain goes over a row, and on behind it
pub chain_row : {im : Image} {lim : ℕ} {o : Bool} {a : ℕ} {es : List Entry} {p : Bool} {b : ℕ} (k : ℕ) → lim ≤ length im
    → Row im lim o a es p b
    → chain (length es + k) o a (part a lim im) ≡ before es (chain k p b (part b lim im))
chain_row k l row_none = rw (zero-add k)
chain_row {im} {lim} {a = a} {p = p} {b = b} k l (row_more {es = es} e q w r) =
    let u : Bool = is_unfinished e.it.status in
    let ih : chain (length es + k) u (a + size e) (part (a + size e) lim im) ≡ before es (chain k p b (part b lim im)) = chain_row k l r in
    rw (suc-add (length es) k)
    (ap (λ (i : ℕ). chain (suc (length es + k)) false i (part i lim im)) (sym q) ∙ chain_stands e (length es + k) l w
    ∙ ap (add e) (ap (λ (i : ℕ). chain (length es + k) u (i + size e) (part (i + size e) lim im)) q ∙ ih))

-- where it ends
pub row_end : {im : Image} {lim : ℕ} {o : Bool} {a : ℕ} {es : List Entry} {p : Bool} {b : ℕ} → a ≤ lim → Row im lim o a es p b
    → (a + 16 * length es ≤ b) × (b ≤ lim)
row_end h row_none = (omega arith, h)
row_end {lim = lim} h (row_more {es = es} e q w r) =
    let ih = row_end (omega (arith, w.fits)) r in
    (omega (arith, ih.0), ih.1)

-- ---- and back: what a chain reads is a row, and what stands behind it

-- the chain c from a on, as a row and the thing behind it
pub record Chained (im : Image) (lim : ℕ) (o : Bool) (a : ℕ) (c : Chain) : Type 0 where
  pub row : Row im lim o a c.entries c.pending c.tail
  pub last : allowed c.pending (next (part c.tail lim im)) ≡ c.last

-- behind an unfinished record neither a record nor a marker is allowed
pub allowed_first : (o : Bool) (x y : Next) → allowed o x ≡ y → tag y ≤ 2 → (o ≡ false) × (x ≡ y)
allowed_first false x y e h = (refl, e)
allowed_first true (Next.Record n d) y e h = absurd (omega (arith, ap tag e))
allowed_first true Next.Wrap y e h = absurd (omega (arith, ap tag e))
allowed_first true Next.TornWrap y e h = absurd (omega (arith, ap tag e))
allowed_first true Next.Clear y e h = absurd (omega (arith, ap tag e))
allowed_first true Next.Over y e h = absurd (omega (arith, ap tag e))
allowed_first true Next.Bad y e h = absurd (omega (arith, ap tag e))

chain_out : (o : Bool) (a : ℕ) (s : List ℕ) → (chain zero o a s).last ≡ Next.Bad
unfolding chain
chain_out o a s = refl

module _ (im : Image) (lim : ℕ) (l : lim ≤ length im) where
  chained_stop : (k : ℕ) (o : Bool) (a : ℕ) (x : Next) → NotRecord x → allowed o (next (part a lim im)) ≡ x
      → Chained im lim o a (chain (suc k) o a (part a lim im))
  chained_stop k o a x z e = rw (chain_stop k o a (part a lim im) x z e) (record { row = row_none; last = e })

  -- with fuel enough: a chain that is not broken
  pub chained : (k : ℕ) (o : Bool) (a : ℕ) → a ≤ lim → ((chain k o a (part a lim im)).last ≡ Next.Bad → ⊥)
      → Chained im lim o a (chain k o a (part a lim im))
  chained zero o a h n = absurd (n (chain_out o a (part a lim im)))
  chained (suc k) o a h n = go (allowed o (next (part a lim im))) refl (chained k) where
    go : (x : Next) → allowed o (next (part a lim im)) ≡ x
        → ((p : Bool) (b : ℕ) → b ≤ lim → ((chain k p b (part b lim im)).last ≡ Next.Bad → ⊥)
        → Chained im lim p b (chain k p b (part b lim im)))
        → Chained im lim o a (chain (suc k) o a (part a lim im))
    go (Next.Record m d) e ih =
        let q = allowed_first o (next (part a lim im)) (Next.Record m d) e (omega arith) in
        let f : Entry = record { at = a; it = rec_of (part a lim im) m d } in
        let w : Stands im lim f = front_stands im a lim m d l h q.1 in
        let u : Bool = is_unfinished f.it.status in
        let c : Chain = chain k u (a + size f) (part (a + size f) lim im) in
        let one : chain (suc k) o a (part a lim im) ≡ add f c =
        ap (λ (b : Bool). chain (suc k) b a (part a lim im)) q.0 ∙ chain_stands f k l w in
        let r : Chained im lim u (a + size f) c = ih u (a + size f) w.fits (λ z. n (ap (λ (x : Chain). x.last) one ∙ z)) in
        subst (λ (x : Chain). Chained im lim o a x) (sym one)
        (subst (λ (b : Bool). Chained im lim b a (add f c)) (sym q.0) (record { row = row_more f refl w r.row; last = r.last }))
    go Next.Wrap e ih = chained_stop k o a Next.Wrap tt e
    go Next.TornWrap e ih = chained_stop k o a Next.TornWrap tt e
    go Next.Clear e ih = chained_stop k o a Next.Clear tt e
    go Next.Over e ih = chained_stop k o a Next.Over tt e
    go Next.Bad e ih = chained_stop k o a Next.Bad tt e
