-- A chain that breaks no rule, from a head with a START or CLEAN byte on, begins with the record that stands there.
use Rattle.std.specs.Prelude.{ℕ, ◌<◌, ◌≡◌, refl, true, false, length, drop, get_or}
use Rattle.std.proofs.Common.{arith, add-zero, sym, ◌∙◌, length-drop, get_or-drop}
use Rattle.std.proofs.Math.Path.{ap}
use mathlib.Core.List.{List, ◌∷◌}
use Rattle.std.proofs.Math.Seq.{take-length}
use Rattle.spec.specs.declared.Next.{Next}
use Rattle.spec.specs.Step.{Image}
use Rattle.spec.specs.Geometry.{floor}
use Rattle.spec.specs.Record.{Entry, low_of, size_of}
use Rattle.spec.specs.Next.{next}
use Rattle.spec.specs.Chain.{Reading, reading_from}
use Rattle.spec.specs.Length.{at_tail}
use Rattle.laws.specs.Tests.{wrong}
use Rattle.laws.specs.Head.{Low}
use Rattle.laws.specs.Parts.{long_le}
use Rattle.chain.specs.declared.Cursor.{Cursor}
use Rattle.chain.specs.declared.Spot.{Spot}
use Rattle.chain.specs.declared.Item.{Item}
use Rattle.chain.specs.Cursor.{look, goes_on, past, unfinished_at, settle, advance}
use Rattle.chain.specs.CursorLaws.{advance_here}
use Rattle.chain.specs.Rest.{Run, entry_of, rest, rest_record}
use Rattle.chain.specs.Fold.{rest_done}
use Rattle.reading.specs.Read.{first_cursor}
use Rattle.reading.specs.Bridge.{read_of, reading_is}
use Rattle.reading.specs.Standing.{entries_from}
use Rattle.headers.specs.Kinds.{RecordOrBad, low_next}

module _ (image : Image) (h : ℕ) (l : h < length image) (b : Low (get_or image h 0)) where
  abbrev c : Cursor
  c = first_cursor image h

  looks : look image c ≡ next (drop h image)
  unfolding look
  looks = ap (λ (t : List ℕ). next (drop h t)) (take-length image)

  low_is : low_of (drop h image) ≡ get_or image h 0
  low_is = get_or-drop h image 0 0 ∙ ap (λ (i : ℕ). get_or image i 0) (add-zero h)

  pub record Starts : Type 0 where
    pub first : Entry
    pub others : List Entry
    pub are : (reading_from image h).entries ≡ first ∷ others
    pub at : first.at ≡ h
    pub low : first.it.low ≡ get_or image h 0

  pub starts : at_tail (reading_from image h).ending ≡ true → Starts
  starts t = go (next (drop h image)) refl
      (low_next (drop h image) (long_le 1 (drop h image) (rw length-drop (omega arith))) (rw low_is b)) where
        go : (x : Next) → next (drop h image) ≡ x → RecordOrBad x → Starts
        go (Next.Record n d) e z =
            let k : look image c ≡ Next.Record n d = looks ∙ e in
            let x : Spot = record { at = h; n = n; d = d } in
            let v : Cursor = past c (size_of n d) (unfinished_at image h) in
            let a : advance image c ≡ Item.Record x v = advance_here image c (ap (goes_on (floor h)) k) ∙ ap (settle image c) k in
            record {
              first = entry_of image x;
              others = (rest image v).entries;
              are = entries_from image h (omega arith) ∙ ap (λ (r : Run). r.entries) (rest_record image c x v a);
              at = refl;
              low = low_is;
            }
        go Next.Wrap e z = absurd z
        go Next.TornWrap e z = absurd z
        go Next.Clear e z = absurd z
        go Next.Over e z = absurd z
        go Next.Bad e z =
            let k : look image c ≡ Next.Bad = looks ∙ e in
            let a : advance image c ≡ Item.Broken h false = advance_here image c (ap (goes_on (floor h)) k) ∙ ap (settle image c) k in
            let d = rest_done image c (Item.Broken h false) (sym a) tt in
            let q : read_of image (length image) h (rest image c) ≡ reading_from image h = reading_is image h (omega arith) in
            wrong (sym (ap (λ (r : Run). at_tail (read_of image (length image) h r).ending) d)
            ∙ ap (λ (r : Reading). at_tail r.ending) q ∙ t)
