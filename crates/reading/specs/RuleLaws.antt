-- The rules of a whole chain, from its tally, as the code goes through them.
use Rattle.std.specs.Prelude.{ℕ, ◌≤◌, ◌<◌, ◌≡◌, refl, Bool, true, false, ◌&&◌, ◌||◌, not, List, [], ◌∷◌, length, eqb, Ok}
use Rattle.std.proofs.Common.{arith, zero-add, ap, ◌∙◌}
use Rattle.std.proofs.Math.Path.{sym}
use Rattle.spec.specs.Basics.{Answer, refuse, give, checked, onward, any, Each, numbered}
use Rattle.spec.specs.Geometry.{floor}
use Rattle.spec.specs.Bytes.{is_clean}
use Rattle.spec.specs.Record.{Entry}
use Rattle.spec.specs.Head.{head}
use Rattle.spec.specs.Chain.{Reading, reading_from}
use Rattle.spec.specs.Files.{live, superseded, files}
use Rattle.spec.specs.Reading.{head_clean, free_ok, whole, marked, second_ok, marks_ok, names_ok, single, legal, judged, reading}
use Rattle.spec.specs.Mount.{head_low, settled}
use Rattle.spec.specs.Door.{if_settled, settled_reading}
use Rattle.spec.specs.Refusals.{RefusalNumbers}
use Rattle.chain.specs.declared.Cursor.{Cursor}
use Rattle.chain.specs.declared.Spot.{Spot}
use Rattle.chain.specs.declared.Tally.{Tally}
use Rattle.reading.specs.declared.Judged.{Judged}
use Rattle.chain.specs.Rest.{rest, entry_of}
use Rattle.chain.specs.Faithful.{Stands, faithful}
use Rattle.chain.specs.Tally.{none_yet, tally}
use Rattle.chain.specs.TallyLaws.{tally_records, tally_files, tally_fine, second_is, clean_few}
use Rattle.chain.specs.TallyLaws.{low_is, clean_is, marks_few, marks_are, pending_is}
use Rattle.reading.specs.NamesLaw.{names_are, files_are}
use Rattle.laws.specs.Settled.{second_marked, last_open, wrap_torn, calm, settled_is}
use Rattle.chain.specs.FreeLaws.{free_by}
use Rattle.reading.specs.Read.{Tallied, reading_of, answered, Told, Quiet, JudgedWell, settled_read}

-- ---- first and second record

module _ (es : List Entry) (x y : Entry) where
  pub second_plain : marked y ≡ false → true ≡ second_ok es x y
  unfolding second_ok
  second_plain m = rw (second_ok, m)

  pub second_live : marked y ≡ true → live es x ≡ true → false ≡ second_ok es x y
  unfolding second_ok
  second_live m l = rw (second_ok, m, l)

  pub second_clean : marked y ≡ true → live es x ≡ false → is_clean y.it.low ≡ true → true ≡ second_ok es x y
  unfolding second_ok
  second_clean m l k = rw (second_ok, m, l, k)

  pub second_start : marked y ≡ true → live es x ≡ false → is_clean y.it.low ≡ false
      → eqb (floor y.at) (floor x.at) ≡ second_ok es x y
  unfolding second_ok
  second_start m l k = rw (second_ok, m, l, k)

  pub second_rest : marked y ≡ true → live es x ≡ false → (p : Bool) → p ≡ (is_clean y.it.low || eqb (floor y.at) (floor x.at))
      → p ≡ second_ok es x y
  unfolding second_ok
  second_rest m l p e = rw (second_ok, m, l) e

-- ---- what the tally of the whole chain says

module _ {image : List ℕ} {start : Cursor} {t : Tally} (w : Tallied image start t) where
  stands : Each (Stands image) (rest image start).entries
  stands = faithful image start w.sound

  pub count_is : t.records ≡ length (rest image start).entries
  count_is =
      ap (λ (u : Tally). u.records) w.same ∙ tally_records none_yet (rest image start).entries
      ∙ zero-add (length (rest image start).entries)

  -- the FC and F8 records with a name are the live files, where none is superseded
  pub files_counted : any (superseded (rest image start).entries) (rest image start).entries ≡ false
      → t.files ≡ length (files (rest image start).entries)
  files_counted h =
      ap (λ (u : Tally). u.files) w.same ∙ tally_files none_yet (rest image start).entries ∙ zero-add _
      ∙ ap length (sym (files_are (rest image start).entries h))

  pub fine_is : t.fine ≡ names_ok (rest image start).entries
  fine_is = ap (λ (u : Tally). u.fine) w.same ∙ tally_fine none_yet (rest image start).entries ∙ names_are (rest image start).entries

  pub head_none : t.records ≡ 0 → false ≡ head_clean (rest image start).entries
  head_none h = clean_few (rest image start).entries (sym count_is ∙ h)

  pub first_low : (t.records ≡ 0 → ⊥) → (entry_of image t.first).it.low ≡ head_low (rest image start).entries
  first_low h = low_is image (rest image start).entries t w.same stands (λ q. h (count_is ∙ q))

  pub first_clean : (t.records ≡ 0 → ⊥) → is_clean (entry_of image t.first).it.low ≡ head_clean (rest image start).entries
  first_clean h = clean_is image (rest image start).entries t w.same stands (λ q. h (count_is ∙ q))

  pub marks_none : t.records < 2 → true ≡ marks_ok (rest image start).entries
  marks_none h = marks_few (rest image start).entries (omega (arith, count_is))

  marks_all : 2 ≤ t.records
      → (not t.further && second_ok (rest image start).entries (entry_of image t.first) (entry_of image t.second)) ≡ marks_ok
      (rest image start).entries
  marks_all h = marks_are image (rest image start).entries t w.same stands (omega (arith, count_is))

  pub marks_further : 2 ≤ t.records → t.further ≡ true → false ≡ marks_ok (rest image start).entries
  marks_further h e = rw e at (marks_all h)

  pub marks_second : 2 ≤ t.records → t.further ≡ false
      → second_ok (rest image start).entries (entry_of image t.first) (entry_of image t.second) ≡ marks_ok
      (rest image start).entries
  marks_second h e = rw e at (marks_all h)

  pub second_none : t.records < 2 → false ≡ second_marked (rest image start).entries
  second_none h = go (rest image start).entries (omega (arith, count_is)) where
    go : (es : List Entry) → length es < 2 → false ≡ second_marked es
    go [] l = refl
    go (x ∷ []) l = refl
    go (x ∷ (y ∷ es)) l = absurd (omega arith)

  pub second_low : 2 ≤ t.records → marked (entry_of image t.second) ≡ second_marked (rest image start).entries
  second_low h = go (rest image start).entries w.same stands (omega (arith, count_is)) where
    go : (es : List Entry) → t ≡ tally none_yet es → Each (Stands image) es → 2 ≤ length es
        → marked (entry_of image t.second) ≡ second_marked es
    go [] q f l = absurd (omega arith)
    go (x ∷ []) q f l = absurd (omega arith)
    go (x ∷ (y ∷ es)) q f l =
        ap (λ (u : Tally). marked (entry_of image u.second)) q ∙ ap (λ (s : Spot). marked (entry_of image s)) (second_is x y es)
        ∙ ap marked f.1.0

  pub open_is : t.pending ≡ last_open (rest image start).entries
  open_is = ap (λ (u : Tally). u.pending) w.same ∙ go (rest image start).entries where
    go : (es : List Entry) → (tally none_yet es).pending ≡ last_open es
    go [] = refl
    go (e ∷ es) = pending_is none_yet e es

-- ---- all rules

free_is : (image : List ℕ) (r : Reading) (t : Bool) → head_clean r.entries ≡ t → free_by t image r.place ≡ free_ok image r
unfolding free_ok
free_is image r true e = rw (free_ok, e)
free_is image r false e = rw (free_ok, e)

pub legal_whole : (image : List ℕ) (r : Reading) → whole r.ending ≡ false → false ≡ legal image r
unfolding legal
legal_whole image r e = rw (legal, e)

module _ (image : List ℕ) (r : Reading) (e : whole r.ending ≡ true) where
  pub legal_names : names_ok r.entries ≡ false → false ≡ legal image r
  unfolding legal
  legal_names a = rw (legal, e, a)

  pub legal_single : names_ok r.entries ≡ true → single r.entries ≡ false → false ≡ legal image r
  unfolding legal
  legal_single a b = rw (legal, e, a, b)

  pub legal_marks : names_ok r.entries ≡ true → single r.entries ≡ true → marks_ok r.entries ≡ false → false ≡ legal image r
  unfolding legal
  legal_marks a b c = rw (legal, e, a, b, c)

  pub legal_free : (k x : Bool) → names_ok r.entries ≡ true → single r.entries ≡ true → marks_ok r.entries ≡ true
      → k ≡ head_clean r.entries → x ≡ free_by k image r.place
      → x ≡ legal image r
  unfolding legal
  legal_free k x a b c d f = rw (legal, e, a, b, c) (f ∙ free_is image r k (sym d))

-- ---- settled

module _ (image : List ℕ) (r : Reading) where
  pub unsettled_1 : head_clean r.entries ≡ true → false ≡ settled image r
  unfolding calm
  unsettled_1 a = sym (settled_is image r ∙ rw (calm, a))

  module _ (a : head_clean r.entries ≡ false) where
    pub unsettled_2 : second_marked r.entries ≡ true → false ≡ settled image r
    unfolding calm
    unsettled_2 b = sym (settled_is image r ∙ rw (calm, a, b))

    module _ (b : second_marked r.entries ≡ false) where
      pub unsettled_3 : last_open r.entries ≡ true → false ≡ settled image r
      unfolding calm
      unsettled_3 c = sym (settled_is image r ∙ rw (calm, a, b, c))

      module _ (c : last_open r.entries ≡ false) where
        pub unsettled_wrap : wrap_torn r.ending ≡ true → false ≡ settled image r
        unfolding calm
        unsettled_wrap d = sym (settled_is image r ∙ rw (calm, a, b, c, d))

        pub settled_but : (x : Bool) → wrap_torn r.ending ≡ false → any (superseded r.entries) r.entries ≡ x
            → not x ≡ settled image r
        unfolding calm
        settled_but x d s = sym (settled_is image r ∙ rw (calm, a, b, c, d, s))

and_last : (a b c d : Bool) → (a && (b && (c && not d))) ≡ true → d ≡ false
and_last true true true true h = sym h
and_last true true true false h = refl
and_last true true false d h = absurd (let z : ◌≡◌ {A = ℕ} 0 1 = cc in omega arith)
and_last true false c d h = absurd (let z : ◌≡◌ {A = ℕ} 0 1 = cc in omega arith)
and_last false b c d h = absurd (let z : ◌≡◌ {A = ℕ} 0 1 = cc in omega arith)

pub settled_quiet : (image : List ℕ) (r : Reading) → settled image r ≡ true → any (superseded r.entries) r.entries ≡ false
unfolding calm
settled_quiet image r h =
    and_last (not (head_clean r.entries)) (not (second_marked r.entries))
    (not (last_open r.entries) && not (wrap_torn r.ending))
    (any (superseded r.entries) r.entries) (sym (settled_is image r) ∙ h)

-- ---- the whole reading

pub reading_by : (image : List ℕ) (h : ℕ) → give h ≡ head image → judged image (reading_from image h) ≡ reading image
unfolding reading
reading_by image h e = ap (λ (a : Answer ℕ). onward a (λ (h : ℕ). judged image (reading_from image h))) e

pub reading_refused : (image : List ℕ) (x : RefusalNumbers) → refuse x ≡ head image → refuse x ≡ reading image
unfolding reading
reading_refused image x e = ap (λ (a : Answer ℕ). onward a (λ (h : ℕ). judged image (reading_from image h))) e

pub settled_none : (image : List ℕ) (x : RefusalNumbers) → refuse x ≡ reading image → refuse x ≡ settled_reading image
unfolding settled_reading
settled_none image x e = ap (λ (a : Answer Reading). onward a (if_settled image)) e

pub settled_by : (image : List ℕ) (r : Reading) (t : Bool) → give r ≡ reading image → settled image r ≡ t
    → checked t (numbered 16) (give r) ≡ settled_reading image
unfolding settled_reading if_settled
settled_by image r t e s = ap (λ (b : Bool). checked b (numbered 16) (give r)) (sym s)
    ∙ ap (λ (a : Answer Reading). onward a (if_settled image)) e

-- a judgement, as the reading of a settled image or 16
pub settled_told : (image : List ℕ) (j : Judged) (b : Bool) → j.settled ≡ b → give (reading_of image j.survey) ≡ reading image
    → JudgedWell image (Ok j)
    → (answered image (settled_read j.survey b) ≡ settled_reading image) × Told image (settled_read j.survey b)
    × Quiet image (settled_read j.survey b)
settled_told image j true q e w = (
  settled_by image (reading_of image j.survey) true e (sym w.1 ∙ q),
  w.0,
  settled_quiet image (reading_of image j.survey) (sym w.1 ∙ q),
)
settled_told image j false q e w = (settled_by image (reading_of image j.survey) false e (sym w.1 ∙ q), tt, tt)
