-- The place at which the chain breaks off, as the code looks at it.
use Rattle.std.specs.Prelude.{Option, Some, None, ℕ, zero, suc, ◌+◌, ◌-◌, ◌≤◌, ◌<◌, ◌≡◌, refl, Bool, ◌&&◌, List, [], ◌∷◌, length, take, drop, ltb}
use Rattle.std.proofs.Common.{arith, not-suc-le-zero, ◌∙◌, length-take, length-drop, drop_of_length-le, drop-drop, take_all}
use Rattle.std.proofs.Math.Path.{sym, ap}
use Rattle.std.proofs.Math.Bool.{true, false}
use Rattle.spec.specs.declared.Place.{Place}
use Rattle.spec.specs.declared.Kind.{Kind}
use Rattle.spec.specs.declared.Rule.{Rule}
use Rattle.spec.specs.Step.{Image}
use Rattle.spec.specs.Basics.{long, part}
use Rattle.spec.specs.Geometry.{floor}
use Rattle.spec.specs.Bytes.{is_spare, ends_name}
use Rattle.spec.specs.Record.{spare_of, data_len_of, name_length, rec_of, Entry}
use Rattle.spec.specs.Chain.{Reading}
use Rattle.spec.specs.Reading.{limit, whole}
use Rattle.spec.specs.Fault.{stands, stands_behind, spare_fault, last_open, shape, name_here}
use Rattle.spec.specs.Fault.{is_cut_off, cut_off_at, cut_off}
use borrow.Author.Tests.{eq-eqb, ne_eqb, ltb-true}
use Rattle.laws.specs.Tests.{and_right}
use Rattle.laws.specs.Parts.{long_le, long_lt, part_window}
use Rattle.chain.specs.FreeLaws.{InImage}
use Rattle.checking.specs.declared.CutOff.{CutOff}
use Rattle.checking.specs.Dirt.{within}

-- ---- the name

-- a name of n bytes from address at + 8 on ends inside the image, if it ends
abbrev pub EndsInside : Image → ℕ → ℕ → Type 0
EndsInside image at n = n < 64 → at + (8 + n) < length image

name_inside : (k : ℕ) (reserved : Bool) (s : List ℕ) → name_length k reserved s < k → name_length k reserved s < length s
unfolding name_length
name_inside zero reserved s h = absurd (not-suc-le-zero h)
name_inside (suc k) reserved [] h = absurd (omega arith)
name_inside (suc k) reserved (b ∷ s) h = go (ends_name reserved b) refl (λ l. name_inside k reserved s l) h where
  go : (t : Bool) → ends_name reserved b ≡ t → (name_length k reserved s < k → name_length k reserved s < length s)
      → name_length (suc k) reserved (b ∷ s) < suc k → name_length (suc k) reserved (b ∷ s) < length (b ∷ s)
  go true e ih l = rw (name_length, e) (omega arith)
  go false e ih l = let m : suc (name_length k reserved s) < suc k = rw (name_length, e) at l in
      rw (name_length, e) (let q = ih (omega arith) in omega arith)

-- the part that the code lends
pub lent : (image : Image) (a : ℕ) → take (length image - a) (drop a image) ≡ drop a image
lent image a = take_all (length image - a) (drop a image) (rw length-drop (omega arith))

pub lent_long : (image : Image) (a k : ℕ) → a + k ≤ length image → k ≤ length (take (length image - a) (drop a image))
lent_long image a k h = rw (lent image a, length-drop) (omega arith)

pub here_is : (image : Image) (at : ℕ) (reserved : Bool) (r : ℕ)
    → r ≡ name_length 64 reserved (take (length image - (at + 8)) (drop (at + 8) image))
    → (r ≡ name_here reserved (drop at image)) × EndsInside image at r
here_is image at reserved r d =
    let e : r ≡ name_length 64 reserved (drop (at + 8) image) = d ∙ ap (name_length 64 reserved) (lent image (at + 8)) in (
      e ∙ ap (name_length 64 reserved) (sym (drop-drop 8 at image)),
      λ l. let q : r < length (drop (at + 8) image) = rw e (name_inside 64 reserved (drop (at + 8) image) (rw e at l)) in
          let m : length (drop (at + 8) image) ≡ length image - (at + 8) = length-drop (at + 8) image in omega arith,
    )

-- none of it is there
pub here_none : (image : Image) (at : ℕ) (reserved : Bool) → length image ≤ at + 8 → 64 ≡ name_here reserved (drop at image)
unfolding name_length
here_none image at reserved h = sym (ap (name_length 64 reserved) (drop-drop 8 at image ∙ drop_of_length-le image h))

-- ---- the record

abbrev pub is_plain : Kind → Bool
is_plain Kind.Record = true
is_plain Kind.Reserved = false
is_plain Kind.Torn = false
is_plain Kind.Marker = false
is_plain Kind.TornMarker = false
is_plain Kind.Clear = false
is_plain Kind.Bad = false

-- the record as the definitions have it
abbrev pub cut_entry : Image → CutOff → Entry
cut_entry image c = record { at = c.at; it = rec_of (drop c.at image) c.n (data_len_of (drop c.at image)) }

abbrev pub cut_list : Image → Option CutOff → List Entry
cut_list image None = []
cut_list image (Some c) = cut_entry image c ∷ []

unfoldable pub cut_there : Image → ℕ → List Entry
cut_there image at = elim (is_cut_off (drop at image)) [ true ↦ cut_off_at at (drop at image) ∷ [] | false ↦ [] ]

-- its name lies in the image
abbrev pub CutInside : Image → Option CutOff → Type 0
CutInside image None = Unit {0}
CutInside image (Some c) = (c.n < 64) × (c.at + (8 + c.n) < length image)

module _ (w : List ℕ) where
  cut_by : (k : Kind) → shape w ≡ k → is_cut_off w ≡ (is_plain k && (is_spare (spare_of w) && ltb (name_here false w) 64))
  unfolding is_cut_off
  cut_by Kind.Record e = rw (is_cut_off, e)
  cut_by Kind.Reserved e = rw (is_cut_off, e)
  cut_by Kind.Torn e = rw (is_cut_off, e)
  cut_by Kind.Marker e = rw (is_cut_off, e)
  cut_by Kind.TornMarker e = rw (is_cut_off, e)
  cut_by Kind.Clear e = rw (is_cut_off, e)
  cut_by Kind.Bad e = rw (is_cut_off, e)

  cut_is : is_cut_off w ≡ (is_plain (shape w) && (is_spare (spare_of w) && ltb (name_here false w) 64))
  cut_is = cut_by (shape w) refl

  short_is : is_cut_off w ≡ true → ltb (name_here false w) 64 ≡ true
  short_is h =
      and_right (is_spare (spare_of w)) (ltb (name_here false w) 64)
      (and_right (is_plain (shape w)) (is_spare (spare_of w) && ltb (name_here false w) 64) (sym cut_is ∙ h))

module _ (image : Image) (at n : ℕ) (e : n ≡ name_here false (drop at image)) (i : EndsInside image at n) where
  pub cut_told : is_cut_off (drop at image) ≡ true
      → (cut_list image (Some (record { at = at; n = n })) ≡ cut_there image at) × CutInside image (Some (record { at = at; n = n }))
  unfolding cut_there
  cut_told h =
      let l : n < 64 = ltb-true n 64 (ap (λ (m : ℕ). ltb m 64) e ∙ short_is (drop at image) h) in
      (rw (cut_there, h, e), (l, i l))

pub none_told : (image : Image) (at : ℕ) → is_cut_off (drop at image) ≡ false → [] ≡ cut_there image at
unfolding cut_there
none_told image at h = rw (cut_there, h)

module _ (image : Image) (r : Reading) where
  pub cut_none_whole : whole r.ending ≡ true → [] ≡ cut_off image r
  unfolding cut_off
  cut_none_whole w = rw (cut_off, w)

  pub cut_none_open : whole r.ending ≡ false → last_open r.entries ≡ true → [] ≡ cut_off image r
  unfolding cut_off
  cut_none_open w o = rw (cut_off, w, o)

  pub cut_is_there : (l : List Entry) → l ≡ cut_there image r.place.tail → whole r.ending ≡ false → last_open r.entries ≡ false
      → l ≡ cut_off image r
  unfolding cut_off cut_there
  cut_is_there l e w o = e ∙ rw (cut_off, cut_there, w, o)

-- ---- what stands behind

module _ (image : Image) (p : Place) (size l : ℕ) (e : l ≡ limit p) (w : InImage image p) where
  rest_is : drop size (part p.tail (limit p) image) ≡ part (p.tail + size) l image
  rest_is = rw e (drop-drop size p.tail (take (limit p) image))

  rest_length : length (part (p.tail + size) l image) ≡ l - (p.tail + size)
  rest_length = length-drop (p.tail + size) (take l image)
      ∙ ap (λ (n : ℕ). n - (p.tail + size)) (length-take l image ∙ (let i = within image p l e w in omega arith))

  pub behind_there : (b : Bool) → p.tail + size < l → b ≡ stands (take (l - (p.tail + size)) (drop (p.tail + size) image))
      → b ≡ stands_behind image p size
  unfolding stands_behind
  behind_there b h q =
      let long-is : long 1 (drop size (part p.tail (limit p) image)) ≡ true =
      ap (long 1) rest_is ∙ long_le 1 (part (p.tail + size) l image) (rw rest_length (omega arith)) in
      rw (stands_behind, long-is)
      (q ∙ ap stands (part_window (p.tail + size) l image (omega arith) ∙ sym rest_is))

  module _ (h : l ≤ p.tail + size) where
    over : long 1 (drop size (part p.tail (limit p) image)) ≡ false
    over = ap (long 1) rest_is ∙ long_lt 1 (part (p.tail + size) l image) (rw rest_length (omega arith))

    pub behind_turned : p.turned ≡ true → false ≡ stands_behind image p size
    unfolding stands_behind
    behind_turned t = rw (stands_behind, over, t)

    pub behind_low : (low : ℕ) → low ≡ floor p.head → p.turned ≡ false → low ≡ 0 → false ≡ stands_behind image p size
    unfolding stands_behind
    behind_low low f t z = rw (stands_behind, over, t, eq-eqb (floor p.head) 0 (sym f ∙ z))

    pub behind_zero : (b : Bool) (low : ℕ) → low ≡ floor p.head → p.turned ≡ false → (low ≡ 0 → ⊥) → b ≡ stands image
        → b ≡ stands_behind image p size
    unfolding stands_behind
    behind_zero b low f t z q = rw (stands_behind, over, t, ne_eqb (floor p.head) 0 (λ y. z (f ∙ y))) q

-- ---- an unfinished record whose reserved byte is not FF

module _ (image : Image) (p : Place) (size l : ℕ) (e : l ≡ limit p) (w : InImage image p) where
  stretch : length (part p.tail (limit p) image) ≡ l - p.tail
  stretch = length-drop p.tail (take (limit p) image)
      ∙ ap (λ (n : ℕ). n - p.tail) (length-take (limit p) image ∙ (let i = within image p l e w in omega (arith, e)))

  pub spare_there : (b : Bool) → p.tail ≤ l → size ≤ l - p.tail → b ≡ stands_behind image p size → b ≡ true
      → Rule.Unfinished ≡ spare_fault image p size
  unfolding spare_fault
  spare_there b h g f t =
      let s : stands_behind image p size ≡ true = sym f ∙ t in
      let fit : long size (part p.tail (limit p) image) ≡ true = long_le size (part p.tail (limit p) image) (rw stretch g) in
      rw (spare_fault, fit, s)

  pub spare_last : (b : Bool) → p.tail ≤ l → size ≤ l - p.tail → b ≡ stands_behind image p size → b ≡ false
      → Rule.Header ≡ spare_fault image p size
  unfolding spare_fault
  spare_last b h g f t =
      let s : stands_behind image p size ≡ false = sym f ∙ t in
      let fit : long size (part p.tail (limit p) image) ≡ true = long_le size (part p.tail (limit p) image) (rw stretch g) in
      rw (spare_fault, fit, s)

  pub spare_long : l - p.tail < size → Rule.Header ≡ spare_fault image p size
  unfolding spare_fault
  spare_long g =
      let fit : long size (part p.tail (limit p) image) ≡ false = long_lt size (part p.tail (limit p) image) (rw stretch g) in
      rw (spare_fault, fit)

  -- the tail is past the stretch's end
  pub spare_past : l < p.tail → 0 < size → Rule.Header ≡ spare_fault image p size
  spare_past h z = spare_long (omega arith)
