-- THE first theorem of K8: "On a settled image with its own head, the answer is get's length, or 2."
use Rattle.std.specs.Prelude.{ℕ, ◌%◌, ◌≡◌, Bool, ◌&&◌, ◌||◌, not, List, [], ◌∷◌, length}
use Rattle.std.proofs.Common.{arith, sym, ◌∙◌, inl, inr}
use Rattle.std.proofs.Math.Path.{refl, ap}
use Rattle.std.proofs.Math.Bool.{true, false}
use Rattle.std.proofs.Math.Option.{Option, none, some}
use borrow.Author.Tests.{eq-eqb, lt-ltb}
use Rattle.spec.specs.declared.Ending.{Ending}
use Rattle.spec.specs.Step.{Image}
use Rattle.spec.specs.Refusals.{RefusalNumbers}
use Rattle.spec.specs.Basics.{Answer, refuse, give, numbered, onward, Each, any, all, first_such}
use Rattle.spec.specs.Geometry.{good_length}
use Rattle.spec.specs.Bytes.{is_record, is_start, is_clean}
use Rattle.spec.specs.Record.{Entry, name_ok, content_of}
use Rattle.spec.specs.Chain.{Reading}
use Rattle.spec.specs.Files.{superseded, file_named}
use Rattle.spec.specs.Reading.{head_clean, free_ok, whole, marked, marks_ok, names_ok, single, legal}
use Rattle.spec.specs.Door.{settled_reading, admitted, misnamed}
use Rattle.spec.specs.Numbers.{Numbers}
use Rattle.spec.specs.Answers.{Plan, carry_out, numbers_of, found, file_of, getting, file_plan, get_plan, get}
use Rattle.spec.specs.Length.{own_name_ok, stands, all_stand, at_tail, of_name, or_else}
use Rattle.spec.specs.Length.{length_in, walked, head_fits, length_from, length_asked, measured, file_length}
use Rattle.laws.specs.Tests.{wrong, not_true, and_left, and_right}
use Rattle.laws.specs.Head.{Low}
use Rattle.laws.specs.Settled.{second_marked, last_open, wrap_torn, unmarked, calm, settled_is}
use Rattle.laws.specs.Door.{settled_gives, admitted_gives, named_good, named_bad}
use Rattle.chain.specs.Rest.{rest}
use Rattle.reading.specs.Read.{first_cursor}
use Rattle.reading.specs.Survey.{first_sound}
use Rattle.reading.specs.Standing.{entries_from}
use Rattle.chain.specs.Tally.{name_fine}
use Rattle.chain.specs.FileLaws.{is_file}
use Rattle.reading.specs.NamesLaw.{names_are}
use Rattle.headers.specs.Named.{none_first, some_first, file_fc, file_f8}
use Rattle.headers.specs.Finished.{Lowly, Finished, orderly}
use Rattle.headers.specs.FirstOne.{starts}
use Rattle.headers.specs.Own.{Own, own_head}

-- ---- each record taken by itself

all_of : {A : Type 0} (p : A → Bool) (xs : List A) → Each (λ x. p x ≡ true) xs → all p xs ≡ true
all_of p [] h = refl
all_of p (x ∷ xs) h = rw (all, h.0) (all_of p xs h.1)

all_each : {A : Type 0} (p : A → Bool) (xs : List A) → all p xs ≡ true → Each (λ x. p x ≡ true) xs
all_each p [] h = tt
all_each p (x ∷ xs) h = go (p x) refl (all_each p xs) where
  go : (t : Bool) → p x ≡ t → (all p xs ≡ true → Each (λ x. p x ≡ true) xs) → Each (λ x. p x ≡ true) (x ∷ xs)
  go true e ih = (e, ih (rw (all, e) at h))
  go false e ih = wrong (rw (all, e) at h)

name_is : (e : Entry) → name_fine e ≡ own_name_ok e
unfolding name_fine own_name_ok is_file
name_is e = refl

-- no mark, so a record's byte
record_left : (a b c : Bool) → (a || b || c) ≡ true → (b || c) ≡ false → a ≡ true
record_left true b c h g = refl
record_left false b c h g = wrong (sym g ∙ h)

behind_stands : (e : Entry) → Lowly e → Finished e → name_fine e ≡ true → marked e ≡ false → stands false e ≡ true
unfolding stands
behind_stands e l f n m =
    rw (stands, record_left (is_record e.it.low) (is_start e.it.low) (is_clean e.it.low) (l f) m, f, sym (name_is e)) n

first_stands : (e : Entry) → is_start e.it.low ≡ true → Finished e → name_fine e ≡ true → stands true e ≡ true
unfolding stands
first_stands e l f n = rw (stands, l, f, sym (name_is e)) n

behind_all : (es : List Entry) → Each Lowly es → Each Finished es → Each (λ e. name_fine e ≡ true) es → Each (λ e. marked e ≡ false) es
    → Each (λ e. stands false e ≡ true) es
behind_all [] l f n m = tt
behind_all (e ∷ es) l f n m = (behind_stands e l.0 f.0 n.0 m.0, behind_all es l.1 f.1 n.1 m.1)

-- ---- the records of a settled reading

pub record Quiet (r : Reading) : Type 0 where
  pub tail : at_tail r.ending ≡ true
  pub first : head_clean r.entries ≡ false
  pub second : second_marked r.entries ≡ false
  pub shut : last_open r.entries ≡ false
  pub lone : any (superseded r.entries) r.entries ≡ false
  pub names : all name_fine r.entries ≡ true
  pub marks : marks_ok r.entries ≡ true

tail_by : (x : Ending) → whole x ≡ true → wrap_torn x ≡ false → at_tail x ≡ true
tail_by Ending.Tail w t = refl
tail_by (Ending.TornWrap a) w t = wrong (sym t)
tail_by Ending.Broken w t = w

quiet_of : (image : Image) (r : Reading) → legal image r ≡ true → calm r ≡ true → Quiet r
unfolding legal calm
quiet_of image r l c =
    let a = whole r.ending in let b = names_ok r.entries in let s = single r.entries in let m = marks_ok r.entries in
    let l4 = and_left (a && b && s && m) (free_ok image r) l in
    let l3 = and_left (a && b && s) m l4 in
    let l2 = and_left (a && b) s l3 in
    let h = not (head_clean r.entries) in let g = not (second_marked r.entries) in
    let o = not (last_open r.entries) in let t = not (wrap_torn r.ending) in
    let q = not (any (superseded r.entries) r.entries) in
    let c1 = and_right h (g && ((o && t) && q)) c in
    let c2 = and_right g ((o && t) && q) c1 in
    let c3 = and_left (o && t) q c2 in
    record {
      tail = tail_by r.ending (and_left a b l2) (not_true (wrap_torn r.ending) (and_right o t c3));
      first = not_true (head_clean r.entries) (and_left h (g && ((o && t) && q)) c);
      second = not_true (second_marked r.entries) (and_left g ((o && t) && q) c1);
      shut = not_true (last_open r.entries) (and_left o t c3);
      lone = not_true (any (superseded r.entries) r.entries) (and_right (o && t) q c2);
      names = names_are r.entries ∙ and_right a b l2;
      marks = and_right (a && b && s) m l4;
    }

-- ---- the walk meets nothing that can't stand

start_left : (b : ℕ) → Low b → is_clean b ≡ false → is_start b ≡ true
unfolding is_start is_clean
start_left b (inl e) f = eq-eqb b 0x00 e
start_left b (inr (inl e)) f = wrong (sym (rw e at f))
start_left b (inr (inr e)) f = wrong (sym (rw e at f))

module _ (x : Entry) (es : List Entry) where
  stand_by : (h : ℕ) → x.at ≡ h → is_start x.it.low ≡ true → Each Lowly (x ∷ es) → Each Finished (x ∷ es)
      → all name_fine (x ∷ es) ≡ true
      → second_marked (x ∷ es) ≡ false → marks_ok (x ∷ es) ≡ true → all_stand h (x ∷ es) ≡ true
  unfolding all_stand
  stand_by h a s l f n u m =
      let ns = all_each name_fine (x ∷ es) n in
      rw (all_stand, eq-eqb x.at h a, first_stands x s f.0 ns.0)
      (all_of (stands false) es (behind_all es l.1 f.1 ns.1 (unmarked x es u m)))

-- ---- the first of the name

-- get's answer of a file, and the length's
abbrev pub lengths : Option Entry → Answer ℕ
lengths none = refuse (numbered 2)
lengths (some e) = give (length (content_of e))

or_none : (o : Option Entry) → or_else none o ≡ lengths o
or_none none = refl
or_none (some e) = refl

pub length_is : (name : List ℕ) (es : List Entry) → any (superseded es) es ≡ false → length_in name es ≡ lengths (file_named name es)
length_is name es q = go (any (of_name 0xFC name) es) refl where
  go : (t : Bool) → any (of_name 0xFC name) es ≡ t → length_in name es ≡ lengths (file_named name es)
  go true e =
      let f = some_first name (of_name 0xFC name) es e in
      ap (λ (o : Option Entry). or_else o (first_such (of_name 0xF8 name) es)) f.is
      ∙ sym (ap lengths (file_fc name es q e ∙ f.is))
  go false e =
      ap (λ (o : Option Entry). or_else o (first_such (of_name 0xF8 name) es)) (none_first name (of_name 0xFC name) es e)
      ∙ or_none (first_such (of_name 0xF8 name) es) ∙ sym (ap lengths (file_f8 name es q e))

-- ---- THE theorem

-- the numbers of a length are get's: answer, a refused name's fault, and the length
pub record AsGet (l g : Numbers) : Type 0 where
  pub answer : l.answer ≡ g.answer
  pub name : l.name ≡ g.name
  pub length : l.size ≡ g.extent.length

abbrev pub SameTold : Answer ℕ → Answer Plan → Type 0
SameTold a p = (image : Image) → AsGet (carry_out image 0 (measured a)).numbers (carry_out image 0 p).numbers

refused_same : (x : RefusalNumbers) → SameTold (refuse x) (refuse x)
unfolding carry_out
refused_same x image = record { answer = refl; name = refl; length = refl }

found_same : (o : Option Entry) → SameTold (lengths o) (found getting o)
unfolding carry_out numbers_of
found_same none image = record { answer = refl; name = refl; length = refl }
found_same (some e) image = record { answer = refl; name = refl; length = refl }

module _ (image : Image) (r : Reading) (name : List ℕ) (admit : admitted image ≡ give r) where
  good_size : good_length (length image) ≡ true
  good_size = (admitted_gives image r admit).0

  gets : settled_reading image ≡ give r
  gets = (admitted_gives image r admit).1

  own : Own image r
  own = own_head image r good_size (settled_gives image r gets).0

  quiet : Quiet r
  quiet = quiet_of image r own.lawful (sym (settled_is image r) ∙ (settled_gives image r gets).1)

  -- its records, by the cursor
  entries_by : r.entries ≡ (rest image (first_cursor image r.place.head)).entries
  entries_by = ap (λ (x : Reading). x.entries) own.same ∙ entries_from image r.place.head (omega (arith, own.led.inside))

  stood : all_stand r.place.head r.entries ≡ true
  stood =
      let h : ℕ = r.place.head in
      let f = starts image h own.led.inside own.led.low
      (sym (ap (λ (x : Reading). at_tail x.ending) own.same) ∙ quiet.tail) in
      let o = orderly image (first_cursor image h) (first_sound image h (omega (arith, own.led.inside)) own.led.small) in
      let es = f.first ∷ f.others in
      let q : r.entries ≡ es = ap (λ (x : Reading). x.entries) own.same ∙ f.are in
      let e : (rest image (first_cursor image h)).entries ≡ es = sym entries_by ∙ q in
      let clean : is_clean f.first.it.low ≡ false = sym (ap head_clean q) ∙ quiet.first in
      let lows : Each Lowly es = rw e at o.lows in
      let shut : last_open (rest image (first_cursor image h)).entries ≡ false = sym (ap last_open entries_by) ∙ quiet.shut in
      let done : Each Finished es = rw e at (o.but_last shut) in
      rw q
      (stand_by f.first f.others h f.at (start_left f.first.it.low (rw f.low own.led.low) clean) lows done
      (sym (ap (all name_fine) q) ∙ quiet.names) (sym (ap second_marked q) ∙ quiet.second) (sym (ap marks_ok q) ∙ quiet.marks))

  walk_whole : walked name r.place.head r ≡ length_in name r.entries
  unfolding walked
  walk_whole = rw (walked, quiet.tail, stood)

  head_there : head_fits (length image) r.place.head ≡ true
  unfolding head_fits
  head_there = rw (head_fits, eq-eqb (r.place.head % 8) 0 own.led.even, lt-ltb r.place.head (length image) own.led.inside)

  asked_is : name_ok name ≡ true → length_asked name r.place.head image ≡ lengths (file_named name r.entries)
  unfolding length_asked length_from
  asked_is n =
      rw (length_asked, good_size, n, length_from, head_there)
      (ap (walked name r.place.head) (sym own.same) ∙ walk_whole ∙ length_is name r.entries quiet.lone)

  got_is : name_ok name ≡ true → get_plan name image ≡ found getting (file_named name r.entries)
  unfolding get_plan file_plan
  got_is n = ap (λ (a : Answer Reading). onward a (file_of name getting)) (named_good image good_size name n ∙ gets)

  named_well : name_ok name ≡ true → SameTold (length_asked name r.place.head image) (get_plan name image)
  named_well n = rw (asked_is n, got_is n) (found_same (file_named name r.entries))

  ill_asked : name_ok name ≡ false → length_asked name r.place.head image ≡ refuse (misnamed name)
  unfolding length_asked
  ill_asked n = rw (length_asked, good_size, n)

  ill_got : name_ok name ≡ false → get_plan name image ≡ refuse (misnamed name)
  unfolding get_plan file_plan
  ill_got n = ap (λ (a : Answer Reading). onward a (file_of name getting)) (named_bad image good_size name n)

  named_ill : name_ok name ≡ false → SameTold (length_asked name r.place.head image) (get_plan name image)
  named_ill n = rw (ill_asked n, ill_got n) (refused_same (misnamed name))

  pub length_is_get : AsGet (file_length image r.place.head name).numbers (get image name).numbers
  unfolding file_length
  length_is_get = go (name_ok name) refl where
    go : (t : Bool) → name_ok name ≡ t → AsGet (file_length image r.place.head name).numbers (get image name).numbers
    go true n = named_well n image
    go false n = named_ill n image
