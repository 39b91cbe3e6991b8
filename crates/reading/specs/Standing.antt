-- A head in an image, and what the reading from it on says of its place.
use Rattle.std.specs.Prelude.{ℕ, ◌+◌, ◌%◌, ◌≤◌, ◌<◌, ◌≡◌, refl, Bool, true, false, List, [], ◌∷◌, length, get_or}
use Rattle.std.proofs.Common.{arith, sym, ap, subst, ◌∙◌}
use Rattle.spec.specs.declared.Place.{Place}
use Rattle.spec.specs.Step.{Image}
use Rattle.spec.specs.Record.{size_of, Entry}
use Rattle.spec.specs.Chain.{Reading, reading_from}
use Rattle.spec.specs.Reading.{limit}
use Rattle.laws.specs.Tests.{wrong}
use Rattle.laws.specs.Head.{Low}
use Rattle.laws.specs.Length.{InRange}
use Rattle.chain.specs.declared.Cursor.{Cursor}
use Rattle.chain.specs.declared.Spot.{Spot}
use Rattle.chain.specs.declared.Item.{Item}
use Rattle.chain.specs.Cursor.{advance, Inside, CursorSound}
use Rattle.chain.specs.Rest.{Run, entry_of, rest}
use Rattle.reading.specs.Bridge.{shown, reading_is}
use Rattle.chain.specs.Fold.{Passes, passes, NotRecord, rest_done}
use Rattle.reading.specs.Read.{first_cursor}
use Rattle.reading.specs.Survey.{first_sound}
use Rattle.chain.specs.Along.{reached}
use Rattle.reading.specs.Way.{On, Lands, EndsOn, ends_on}
use Rattle.reading.specs.FirstRecord.{first_at, past_on_way}

-- a head stands at h, in an image of whole eights
pub record Led (s : Image) (h : ℕ) : Type 0 where
  pub even : h % 8 ≡ 0
  pub inside : h < length s
  pub low : Low (get_or s h 0)
  pub eights : length s % 8 ≡ 0
  pub long : 16 ≤ length s
  pub small : InRange (length s)

-- what the code finds at a cursor: a record, and the cursor past it
pub record Taken (s : Image) (c : Cursor) (x : Spot) (next : Cursor) : Type 0 where
  pub passes : Passes s c x next
  pub step : advance s c ≡ Item.Record x next

pub taken : {s : Image} {c k : Cursor} {r : Item} {x : Spot} {next : Cursor} → k ≡ c → r ≡ advance s k → Inside s k r
    → r ≡ Item.Record x next
    → Taken s c x next
taken {s} {c} {k} {r} {x} {next} q e i f =
    record { passes = subst (λ (v : Cursor). Passes s v x next) q (passes (e, i) f); step = ap (advance s) (sym q) ∙ sym e ∙ f }

pub start_sound : {s : Image} {h : ℕ} {k : Cursor} → Led s h → k ≡ first_cursor s h → CursorSound s k
start_sound {s} {h} w q = rw q (first_sound s h (omega (arith, w.inside)) w.small)

-- the place of a reading from h on; before the turn its tail is not below lo
pub record Standing (N h lo : ℕ) (p : Place) : Type 0 where
  pub head : p.head ≡ h
  pub whole : p.length ≡ N
  pub even : p.tail % 8 ≡ 0
  pub free : p.tail ≤ limit p
  pub up : p.turned ≡ false → lo ≤ p.tail

module _ (N h lo : ℕ) where
  abbrev place_at : ℕ → Bool → Place
  place_at t w = record { head = h; tail = t; turned = w; length = N }

  landed : (t : ℕ) (w : Bool) → Lands N h lo t w → Standing N h lo (place_at t w)
  landed t true l = record { head = refl; whole = refl; even = l.even; free = l.round refl; up = λ z. wrong (sym z) }
  landed t false l = record { head = refl; whole = refl; even = l.even; free = (l.up refl).1; up = λ z. (l.up refl).0 }

  shown_stands : (image : Image) (es : List Entry) (e : Item) → EndsOn N h lo e → Standing N h lo (shown image N h es e).place
  shown_stands image es (Item.Record x c) l = absurd l
  shown_stands image es (Item.End t w) l = landed t w l
  shown_stands image es (Item.TornWrap t) l = landed 0 true (record { even = refl; up = λ z. wrong (sym z); round = λ z. omega arith })
  shown_stands image es (Item.Broken t w) l = landed t w l

shown_entries : (image : Image) (N h : ℕ) (es : List Entry) (e : Item) → (shown image N h es e).entries ≡ es
shown_entries image N h es (Item.Record x c) = refl
shown_entries image N h es (Item.End t w) = refl
shown_entries image N h es (Item.TornWrap t) = refl
shown_entries image N h es (Item.Broken t w) = refl

pub entries_from : (image : Image) (h : ℕ) → h ≤ length image → (reading_from image h).entries ≡ (rest image (first_cursor image h)).entries
entries_from image h l =
    let r : Run = rest image (first_cursor image h) in
    ap (λ (x : Reading). x.entries) (sym (reading_is image h l)) ∙ shown_entries image (length image) h r.entries r.ending

module _ (image : Image) (h : ℕ) (w : Led image h) where
  pub entries_are : (reading_from image h).entries ≡ (rest image (first_cursor image h)).entries
  entries_are = entries_from image h (omega (arith, w.inside))

  stands_by : (lo : ℕ) → EndsOn (length image) h lo (rest image (first_cursor image h)).ending
      → Standing (length image) h lo (reading_from image h).place
  stands_by lo l =
      let r : Run = rest image (first_cursor image h) in
      rw (← reading_is image h (omega (arith, w.inside))) (shown_stands (length image) h lo image r.entries r.ending l)

  pub stands : Standing (length image) h h (reading_from image h).place
  stands =
      let o : On (length image) h h (first_cursor image h) = record
      { even = w.even; up = λ z. (omega arith, omega (arith, w.inside), refl, refl); round = λ z. wrong z } in
      stands_by h (ends_on image (length image) h h (first_cursor image h) o)

  -- the records, as far as the code has looked
  pub none_listed : {k : Cursor} (q : Item) → k ≡ first_cursor image h → q ≡ advance image k → NotRecord q
      → (reading_from image h).entries ≡ []
  none_listed q f e z = entries_are ∙ ap (λ (r : Run). r.entries) (rest_done image (first_cursor image h) q (e ∙ ap (advance image) f) z)

  module _ {x : Spot} {c : Cursor} (t : Taken image (first_cursor image h) x c) where
    pub listed : (reading_from image h).entries ≡ entry_of image x ∷ (rest image c).entries
    listed = entries_are ∙ ap (λ (r : Run). r.entries) t.passes.split

    pub one_listed : (q : Item) → q ≡ advance image c → NotRecord q → (reading_from image h).entries ≡ entry_of image x ∷ []
    one_listed q e z = listed ∙ ap (λ (r : Run). entry_of image x ∷ r.entries) (rest_done image c q e z)

    pub two_listed : {y : Spot} {d : Cursor} → Taken image c y d
        → (reading_from image h).entries ≡ entry_of image x ∷ (entry_of image y ∷ (rest image d).entries)
    two_listed u = listed ∙ ap (λ (r : Run). entry_of image x ∷ r.entries) u.passes.split

    -- with the first record known, before the turn the tail is behind it
    pub head_at : x.at ≡ h
    head_at = first_at image h w.inside w.low x c (reached image (first_cursor image h) x c t.step)

    pub stands_past : Standing (length image) h (h + size_of x.n x.d) (reading_from image h).place
    stands_past =
        let lo : ℕ = h + size_of x.n x.d in
        let o : On (length image) h lo c = past_on_way image h w.inside w.low x c
        (reached image (first_cursor image h) x c t.step) w.even in
        stands_by lo (rw t.passes.split (ends_on image (length image) h lo c o))
