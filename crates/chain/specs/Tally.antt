-- What one pass over the chain tells, as a fold over its records.
use Rattle.std.specs.Prelude.{ℕ, ◌+◌, ◌≤◌, ◌<◌, ◌^◌, ◌≡◌, refl, Bool, true, false, cond, ◌&&◌, ◌||◌, List, [], ◌∷◌, length, eqb, leb, ltb}
use Rattle.std.proofs.Common.{arith, sym, ◌∙◌, ne_eqb}
use Rattle.std.proofs.Math.Path.{ap}
use Rattle.std.proofs.lemmas.Bool.{lt-leb}
use Rattle.spec.specs.Bytes.{is_unfinished}
use Rattle.spec.specs.Record.{Entry, name_of, name_ok, size, size_of}
use Rattle.spec.specs.Space.{sizes}
use Rattle.spec.specs.Reading.{marked}
use Rattle.chain.specs.declared.Cursor.{Cursor}
use Rattle.chain.specs.declared.Spot.{Spot}
use Rattle.chain.specs.declared.Item.{Item}
use Rattle.chain.specs.declared.Sums.{Sums}
use Rattle.chain.specs.declared.Tally.{Tally}
use Rattle.chain.specs.declared.Pass.{Pass}
use Rattle.chain.specs.Cursor.{CursorSound, left, Inside, unfinished_at}
use Rattle.chain.specs.Rest.{Run, rest, entry_of}
use Rattle.chain.specs.Fold.{spot_of, spot_is, Whole, Passes, Folded, fold_start, fold_step}
use Rattle.chain.specs.FileLaws.{is_file}
use Rattle.chain.specs.Sums.{size_is, sizes_most}

-- an FC or F8 record with a name has a good one
unfoldable pub name_fine : Entry → Bool
name_fine e = elim (is_file e) [ true ↦ name_ok (name_of e) | false ↦ true ]

abbrev pub nowhere : Spot
nowhere = record { at = 0; n = 0; d = 0 }

abbrev pub none_yet : Tally
none_yet =
    record {
      records = 0;
      files = 0;
      sums = record { files = 0; others = 0 };
      first = nowhere;
      second = nowhere;
      last = nowhere;
      fine = true;
      further = false;
      pending = false;
    }

-- one more, if it is a file
abbrev pub count_with : ℕ → Bool → ℕ
count_with k true = k + 1
count_with k false = k

-- with one record's size more
abbrev pub sums_with : Sums → ℕ → Bool → Sums
sums_with s z true = record { files = s.files + z; others = s.others }
sums_with s z false = record { files = s.files; others = s.others + z }

-- the size of the record at e can be told and added
abbrev pub AddableSize : Sums → Spot → Type 0
AddableSize s e = (e.n ≤ 64) × (e.d < 2 ^ 32) × (s.files + s.others + size_of e.n e.d ≤ 2 ^ 25)

-- with one record more
unfoldable pub noted : Tally → Entry → Tally
noted t e =
    record {
      records = t.records + 1;
      files = count_with t.files (is_file e);
      sums = sums_with t.sums (size e) (is_file e);
      first = cond (eqb t.records 0) (spot_of e) t.first;
      second = cond (leb t.records 1) (spot_of e) t.second;
      last = spot_of e;
      fine = t.fine && name_fine e;
      further = t.further || (ltb 1 t.records && marked e);
      pending = is_unfinished e.it.status;
    }

-- a plain record behind the second leaves the first, the second and the marks as they are
abbrev pub noted_plain : Tally → Spot → Bool → Bool → Bool → Tally
noted_plain t e file fine pending =
    record {
      records = t.records + 1;
      files = count_with t.files file;
      sums = sums_with t.sums (size_of e.n e.d) file;
      first = t.first;
      second = t.second;
      last = e;
      fine = fine;
      further = t.further;
      pending = pending;
    }

abbrev pub tally : Tally → List Entry → Tally
tally t [] = t
tally t (e ∷ es) = tally (noted t e) es

abbrev pub passed : Tally → Run → Pass
passed t r = record { tally = tally t r.entries; end = r.ending }

-- ---- the loop

-- all bytes of the records that the tally names are there
pub record Spots (image : List ℕ) (t : Tally) : Type 0 where
  pub first : Whole image t.first
  pub second : Whole image t.second
  pub last : Whole image t.last

-- where the chain ends lies in the image
abbrev pub EndInside : List ℕ → Item → Type 0
EndInside image (Item.Record e c) = Unit {0}
EndInside image (Item.End t w) = t ≤ length image
EndInside image (Item.TornWrap t) = t ≤ length image
EndInside image (Item.Broken t w) = t ≤ length image

pub end_inside : (image : List ℕ) (c : Cursor) (r : Item) → Inside image c r → EndInside image r
end_inside image c (Item.Record e next) h = tt
end_inside image c (Item.End t w) h = h
end_inside image c (Item.TornWrap t) h = h
end_inside image c (Item.Broken t w) h = h

pub record Passing (image : List ℕ) (start c : Cursor) (t : Tally) : Type 0 where
  pub fold : Folded passed image start none_yet c t
  pub spots : Spots image t
  pub few : t.records + left c ≤ left start
  pub files : t.files ≤ t.records

pub noted_records : (t : Tally) (e : Entry) → (noted t e).records ≡ t.records + 1
unfolding noted
noted_records t e = refl

noted_files : (t : Tally) (e : Entry) → (noted t e).files ≤ t.files + 1
unfolding noted
noted_files t e = go (is_file e) where
  go : (b : Bool) → count_with t.files b ≤ t.files + 1
  go true = omega arith
  go false = omega arith

or_none : (a b : Bool) → a ≡ (a || (b && false))
or_none true b = refl
or_none false true = refl
or_none false false = refl

-- the sums so far and the sizes of the rest are those of all
with_all : (s : Sums) (z : ℕ) (b : Bool) → (sums_with s z b).files + (sums_with s z b).others ≡ s.files + s.others + z
with_all s z true = omega arith
with_all s z false = omega arith

pub tally_sums : (t : Tally) (es : List Entry)
    → (tally t es).sums.files + (tally t es).sums.others ≡ t.sums.files + t.sums.others + sizes es
unfolding noted
tally_sums t [] = omega arith
tally_sums t (e ∷ es) = let q = tally_sums (noted t e) es in omega (arith, q, with_all t.sums (size e) (is_file e))

module _ {image : List ℕ} where
  pub passing_start : {start : Cursor} → CursorSound image start → 16 ≤ length image → Passing image start start none_yet
  passing_start {start} s l =
      let w : Whole image nowhere = record { fits = omega arith } in
      record {
        fold = fold_start passed image start none_yet s;
        spots = record { first = w; second = w; last = w };
        few = omega arith;
        files = omega arith;
      }

  either : (b : Bool) (x y : Spot) → Whole image x → Whole image y → Whole image (cond b x y)
  either true x y p q = p
  either false x y p q = q

  noted_spots : (t : Tally) (e : Spot) → Whole image e → Spots image t → Spots image (noted t (entry_of image e))
  unfolding noted
  noted_spots t e w s =
      let v : Whole image (spot_of (entry_of image e)) = rw (spot_is image e w) w in
      record {
        first = either (eqb t.records 0) (spot_of (entry_of image e)) t.first v s.first;
        second = either (leb t.records 1) (spot_of (entry_of image e)) t.second v s.second;
        last = v;
      }

  pub passing_step : {start c next : Cursor} {e : Spot} {t u : Tally} → Passing image start c t → Passes image c e next
      → u ≡ noted t (entry_of image e) → Passing image start next u
  passing_step {start} {c} {next} {e} {t} {u} p w q =
      rw q
      record {
        fold = fold_step passed image start none_yet c t p.fold e next w (noted t (entry_of image e)) refl;
        spots = noted_spots t e w.whole p.spots;
        few = omega (arith, p.few, w.onward.less, noted_records t (entry_of image e));
        files = omega (arith, p.files, noted_records t (entry_of image e), noted_files t (entry_of image e));
      }

  -- the tally as the code makes it
  pub noted_is : (t : Tally) (e : Spot) (files : ℕ) (sums : Sums) (one two : Spot) (fine further pending : Bool) → Whole image e
      → files ≡ count_with t.files (is_file (entry_of image e))
      → sums ≡ sums_with t.sums (size_of e.n e.d) (is_file (entry_of image e))
      → one ≡ cond (eqb t.records 0) e t.first
      → two ≡ cond (leb t.records 1) e t.second
      → fine ≡ (t.fine && name_fine (entry_of image e)) → further ≡ (t.further || (ltb 1 t.records && marked (entry_of image e)))
      → pending ≡ unfinished_at image e.at
      → record {
        records = t.records + 1;
        files = files;
        sums = sums;
        first = one;
        second = two;
        last = e;
        fine = fine;
        further = further;
        pending = pending;
      } ≡ noted t (entry_of image e)
  unfolding noted
  noted_is t e files sums one two fine further pending w f s a b c d h =
      let z : sums ≡ sums_with t.sums (size (entry_of image e)) (is_file (entry_of image e)) =
      s ∙ ap (λ (k : ℕ). sums_with t.sums k (is_file (entry_of image e))) (sym (size_is w)) in
      rw (f, z, a, b, c, d, h, spot_is image e w)

  pub noted_plain_is : (t : Tally) (e : Spot) (file fine pending : Bool) → Whole image e → 2 ≤ t.records
      → marked (entry_of image e) ≡ false → file ≡ is_file (entry_of image e)
      → fine ≡ (t.fine && name_fine (entry_of image e)) → pending ≡ unfinished_at image e.at
      → noted_plain t e file fine pending ≡ noted t (entry_of image e)
  noted_plain_is t e file fine pending w h m f c p =
      noted_is t e (count_with t.files file) (sums_with t.sums (size_of e.n e.d) file) t.first t.second fine t.further
      pending w (ap (count_with t.files) f) (ap (sums_with t.sums (size_of e.n e.d)) f)
      (rw (ne_eqb t.records 0 (λ q. omega arith)))
      (rw (lt-leb t.records 1 (omega arith))) c (rw m (or_none t.further (ltb 1 t.records))) p

  -- so that the record at c has its size among those of all
  pub addable_size : {start c next : Cursor} {e : Spot} {t : Tally} → CursorSound image start → Passing image start c t
      → Passes image c e next
      → AddableSize t.sums e
  addable_size {start} {c} {next} {e} {t} s p w =
      let all = ap (λ (x : Pass). x.tally.sums.files + x.tally.sums.others) p.fold.same in
      let here : sizes (rest image c).entries ≡ size (entry_of image e) + sizes (rest image next).entries =
      ap (λ (r : Run). sizes r.entries) w.split in (
        omega (arith, w.onward.name),
        w.onward.data_len,
        omega (
          arith,
          all,
          here,
          tally_sums none_yet (rest image start).entries,
          tally_sums t (rest image c).entries,
          sizes_most image start s,
          size_is w.whole,
          s.inside,
          s.room,
          s.small,
        ),
      )
