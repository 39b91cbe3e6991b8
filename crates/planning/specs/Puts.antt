-- The call put: on every image that admits it, with room, it leaves a settled image.
use Rattle.std.specs.Prelude.{ℕ, zero, suc, ◌+◌, ◌<◌, ◌≡◌, refl, Bool, true, false, List, [], ◌∷◌, ◌++◌, map, length, set}
use Rattle.std.proofs.Common.{arith, not-suc-le-zero, sym, ap, ◌∙◌, subst, length-set, eq-eqb, ne_eqb}
use Rattle.std.proofs.lemmas.Bool.{false≢true}
use Rattle.std.proofs.Math.Option.{Option, none, some}
use Rattle.std.proofs.Math.Seq.{set_out}
use Rattle.spec.specs.declared.Ending.{Ending}
use Rattle.spec.specs.declared.Place.{Place}
use Rattle.spec.specs.Step.{Image, Step, program, run, shifted}
use Rattle.spec.specs.Basics.{keep, first_such, Each}
use Rattle.spec.specs.Bytes.{ends_name, is_committed}
use Rattle.spec.specs.Record.{size_of, name_ok, Entry}
use Rattle.spec.specs.Chain.{Reading}
use Rattle.spec.specs.Files.{live, has_name, file_named}
use Rattle.spec.specs.Place.{fits, fits_all, address, room}
use Rattle.spec.specs.Write.{turn_steps, record_steps, put_steps}
use Rattle.laws.specs.Names.{Readable, good_name, name_readable}
use Rattle.laws.specs.Lists.{keep_yes, keep_no, first_yes, first_no, each_map}
use Rattle.laws.specs.Length.{Good}
use Rattle.laws.specs.Steps.{run_append}
use Rattle.planning.specs.Planned.{copied_place}
use Rattle.planning.specs.Spots.{Nameable}
use Rattle.planning.specs.First.{head_recordish, reads_filled, reads_head}
use Rattle.planning.specs.Dropped.{Aside, drop_if}
use Rattle.planning.specs.Rested.{Rested}
use Rattle.planning.specs.NewCopy.{new, new_length}
use Rattle.planning.specs.Putting.{put_reading}
use Rattle.planning.specs.PutRested.{stands_at, new_rested}

-- ---- what the tests of the call say

-- a byte of a name ends none
readable_inner : (b : ℕ) → Readable b → ends_name false b ≡ false
unfolding ends_name
readable_inner b h = rw (ends_name, ne_eqb b 0 (λ e. omega arith))

all_inner : (n : List ℕ) → Each Readable n → Nameable n
all_inner [] h i l = absurd (not-suc-le-zero l)
all_inner (b ∷ n) h zero l = readable_inner b h.0
all_inner (b ∷ n) h (suc j) l = all_inner n h.1 j (omega arith)

named_well : (n : List ℕ) → name_ok n ≡ true → (length n < 64) × Nameable n
named_well n h = (omega (arith, (good_name n h).short), all_inner n (name_readable n h))

-- with room the record fits
pub room_fits : (p : Place) (name : List ℕ) (s : ℕ) (es : List Entry) → room p name s es ≡ true → fits p s ≡ true
unfolding room fits_all
room_fits p name s es h = go (fits p s) refl where
  go : (t : Bool) → fits p s ≡ t → fits p s ≡ true
  go true e = e
  go false e = absurd (false≢true (rw (room, fits_all, e) at h))

-- ---- the file that is replaced, if there is one

-- its address; with none, the end of an image of N bytes, where no record stands
abbrev pub old_at : Option Entry → ℕ → ℕ
old_at none N = N
old_at (some e) N = e.at

abbrev old_status : Option Entry → ℕ
old_status none = 0x00
old_status (some e) = e.it.status

-- the new record, with the replaced one's address and status
abbrev in_place : Option Entry → ℕ → List ℕ → List ℕ → Entry
in_place old N name content =
    record { at = old_at old N; it = record { low = 0xA5; status = old_status old; name = name; content = content } }

-- what holds of every record that passes p holds of the first such that passes q
pub first_kept : (p q : Entry → Bool) (es : List Entry) (e : Entry) (P : Entry → Type 0) → first_such q (keep p es) ≡ some e
    → Each (λ f. p f ≡ true → P f) es → P e
first_kept p q [] e P h w = absurd (let z : ◌≡◌ {A = ℕ} 0 1 = cc in omega arith)
first_kept p q (f ∷ es) e P h w = go (p f) refl (q f) refl (first_kept p q es e P) where
  go : (t : Bool) → p f ≡ t → (u : Bool) → q f ≡ u → (first_such q (keep p es) ≡ some e → Each (λ f. p f ≡ true → P f) es → P e) → P e
  go true a true b ih =
      let k : some f ≡ some e = sym (first_yes q f (keep p es) b) ∙ ap (first_such q) (sym (keep_yes p f es a)) ∙ h in
      let z : f ≡ e = cc in
      subst P z (w.0 a)
  go true a false b ih = ih (sym (first_no q f (keep p es) b) ∙ ap (first_such q) (sym (keep_yes p f es a)) ∙ h) w.1
  go false a u b ih = ih (ap (first_such q) (sym (keep_no p f es a)) ∙ h) w.1

-- its status byte, and no other, is touched
old_only : (N : ℕ) (name : List ℕ) (es : List Entry) (old : Option Entry) → file_named name es ≡ old → (i : ℕ) → i < N
    → Aside (stands_at (old_at old N)) i es → i ≡ old_at old N + 2 → ⊥
unfolding file_named
old_only N name es none h i l w q = omega arith
old_only N name es (some e) h i l w q =
    first_kept (live es) (has_name name) es e (λ f. f.at ≡ e.at → i ≡ f.at + 2 → ⊥) h
    (each_map {P = λ f. stands_at e.at f ≡ true → i ≡ f.at + 2 → ⊥} {Q = λ f. live es f ≡ true → f.at ≡ e.at → i ≡ f.at + 2 → ⊥} es
    (λ f k u v. k (eq-eqb f.at e.at v)) w)
    refl q

-- the steps are those of a new record in its place; a step past the end of the image does nothing
put_is : (im : Image) (p : Place) (name content : List ℕ) (old : Option Entry)
    → run im (put_steps p old name content) ≡ new im p (in_place old (length im) name content)
unfolding put_steps is_committed
put_is im p name content (some e) = refl
put_is im p name content none =
    let N : ℕ = length im in
    let s : ℕ = size_of (length name) (length content) in
    let turn : List Step = turn_steps p s in
    let rec : List Step = shifted (address p s) (record_steps name content) in
    let done : Image = run (run im turn) rec in
    let far : Image = new im p (in_place none N name content) in
    let two : (ss : List Step) → run im (turn ++ (rec ++ ss)) ≡ run done ss =
    λ ss. run_append im turn (rec ++ ss) ∙ run_append (run im turn) rec ss in
    let past : far ≡ set done (N + 2) 0 = two (program (N + 2) 0 ∷ []) in
    let len : length done ≡ N = sym (length-set done (N + 2) 0) ∙ ap length (sym past) ∙ new_length im p (in_place none N name content) in
    two [] ∙ sym (set_out done (N + 2) 0 (omega arith)) ∙ sym past

-- ---- the call

-- the new record
abbrev pub new_record : Place → List ℕ → List ℕ → Entry
new_record p name content =
    record {
      at = address p (size_of (length name) (length content));
      it =
          record { low = 0xA5; status = 0xFC; name = name; content = content };
    }

-- what is read after the put of this name and content
abbrev pub put_left : List ℕ → List ℕ → Reading → Reading
put_left name content r =
    record {
      place = copied_place r.place (size_of (length name) (length content));
      entries =
          map (drop_if (stands_at (old_at (file_named name r.entries) r.place.length))) r.entries ++
          (new_record r.place name content ∷ []);
      ending = Ending.Tail;
    }

module _ (im : Image) (r : Reading) (name content : List ℕ) (g : Good (length im)) (w : Rested im r) (n : name_ok name ≡ true)
    (f : room r.place name (size_of (length name) (length content)) r.entries ≡ true) where
  abbrev old : Option Entry
  old = file_named name r.entries

  abbrev left : Image
  left = run im (put_steps r.place old name content)

  pub put_length : length left ≡ length im
  put_length = ap length (put_is im r.place name content old) ∙ new_length im r.place (in_place old (length im) name content)

  pub put_rested : Rested left (put_left name content r)
  put_rested = go r.entries refl where
    N : ℕ
    N = length im

    x : Entry
    x = in_place old N name content

    at : old_at old N ≡ old_at old r.place.length
    at = ap (old_at old) (sym (reads_head w.reads).1)

    go : (us : List Entry) → r.entries ≡ us → Rested left (put_left name content r)
    go [] q = absurd (reads_filled (head_recordish im r.place.head (omega (arith, w.inside, w.even, g.sectors)) w.low)
        w.reads q)
    go (y ∷ us) q =
        let k : fits r.place (size_of (length name) (length content)) ≡ true =
        room_fits r.place name (size_of (length name) (length content)) r.entries f in
        subst (λ (a : ℕ). Rested left (record {
          place = copied_place r.place (size_of (length name) (length content));
          entries = map (drop_if (stands_at a)) r.entries ++ (new_record r.place name content ∷ []);
          ending = Ending.Tail;
        })) at
        (subst (λ (i : Image). Rested i (put_reading (stands_at (old_at old N)) r.place x r.entries))
        (sym (put_is im r.place name content old))
        (new_rested im g w x (named_well name n) q (old_only N name r.entries old refl) k))
