-- On a rested image list and get give the ledger's files and no others: each entry's bytes are read where it stands, and no two live
-- entries have one name.
use Rattle.std.specs.Prelude.{ℕ, zero, suc, ◌+◌, ◌≤◌, ◌<◌, ◌≡◌, Bool, true, false, List, [], ◌∷◌, ◌++◌, map, length, take, drop}
use Rattle.std.proofs.Common.{arith, ◌∙◌, subst, drop-drop}
use Rattle.std.proofs.Math.Path.{refl, sym, ap}
use Rattle.std.proofs.Math.Option.{Option, none, some}
use mathlib.Core.List.Permᴰ
use Rattle.std.proofs.Math.ListN.{get_elem?}
use Rattle.spec.specs.Step.{Image}
use Rattle.spec.specs.Basics.{Answer, refuse, give, same, keep, first_such, Each, numbered}
use Rattle.spec.specs.Geometry.{up8}
use Rattle.spec.specs.Record.{name_ok, rec_of, Rec, Entry, name_of, content_of, data_at}
use Rattle.spec.specs.Chain.{Reading}
use Rattle.spec.specs.Files.{files, has_name, file_named}
use Rattle.spec.specs.Numbers.{Numbers, part_of}
use Rattle.spec.specs.Answers.{Plan, numbers_of, carry_out, found, file_plan, getting, get_plan, listing, list_plan, get, list, looking}
use Rattle.spec.specs.History.{File, Ledger, is_named, has}
use Rattle.spec.specs.Demand.{Distinct, Maps, Lists, Listed, Indexed, Got, Shows}
use Rattle.history.specs.Lists.{Pairwise, each_keep}
use Rattle.laws.specs.Lists.{keep_yes, keep_no, first_yes, first_no, each_map, any_none_each}
use Rattle.laws.specs.Tests.{not_both}
use Rattle.history.specs.Indexes.{each_index, index_each, each_split, index_below, at_index, past_end}
use Rattle.history.specs.Store.{alive, Unique, files_alive}
use Rattle.history.specs.Ledger.{as_file, perm_each, perm_length}
use Rattle.history.specs.Lay.{onto, rec_of_onto, drop_past}
use Rattle.history.specs.Laid.{Inside}
use Rattle.history.specs.LaidEdit.{inside_of}
use Rattle.history.specs.Kinds.{Rested}
use Rattle.history.specs.OkLaws.{same_refl, Old, old_none, old_some, old_file}
use Rattle.history.specs.DistinctNames.{maps_each}
use Rattle.history.specs.Settled.{rested_settled}
use Rattle.laws.specs.Door.{named_good, admitted_good}

-- ---- entries as files

length_map : (es : List Entry) → length (map as_file es) ≡ length es
length_map [] = refl
length_map (e ∷ es) = ap suc (length_map es)

each_map_file : (P : File → Type 0) (es : List Entry) → Each (λ e. P (as_file e)) es → Each P (map as_file es)
each_map_file P [] h = tt
each_map_file P (e ∷ es) h = (h.0, each_map_file P es h.1)

map_each_file : (P : File → Type 0) (es : List Entry) → Each P (map as_file es) → Each (λ e. P (as_file e)) es
map_each_file P [] h = tt
map_each_file P (e ∷ es) h = (h.0, map_each_file P es h.1)

-- ---- live entries have names of their own

abbrev NamesDiffer : Entry → Entry → Type 0
NamesDiffer e f = same (name_of e) (name_of f) ≡ false

live_names : (es : List Entry) → Unique es → Pairwise NamesDiffer (keep alive es)
live_names [] u = tt
live_names (e ∷ es) u = go (alive e) refl (live_names es u.1)
  where
    go : (b : Bool) → alive e ≡ b → Pairwise NamesDiffer (keep alive es) → Pairwise NamesDiffer (keep alive (e ∷ es))
    go true k i =
        subst (Pairwise NamesDiffer) (sym (keep_yes alive e es k))
        (each_keep (NamesDiffer e) alive es (each_map es (λ f h q. h k q) u.0), i)
    go false k i = subst (Pairwise NamesDiffer) (sym (keep_no alive e es k)) i

first_at : (fs : List Entry) (i : ℕ) (e : Entry) → Pairwise NamesDiffer fs → get_elem? fs i ≡ some e
    → first_such (has_name (name_of e)) fs ≡ some e
first_at [] i e d h = absurd (let z : ◌≡◌ {A = ℕ} 0 1 = cc in omega arith)
first_at (x ∷ fs) zero e d h =
    let p : x ≡ e = cc in
    first_yes (has_name (name_of e)) x fs (ap (λ (y : Entry). same (name_of y) (name_of e)) p ∙ same_refl (name_of e)) ∙ ap some p
first_at (x ∷ fs) (suc i) e d h =
    first_no (has_name (name_of e)) x fs (index_each (NamesDiffer x) fs i e h d.0) ∙ first_at fs i e d.1 h

same_index : (fs : List Entry) (i j : ℕ) (e f : Entry) → Pairwise NamesDiffer fs → get_elem? fs i ≡ some e → get_elem? fs j ≡ some f
    → name_of e ≡ name_of f → i ≡ j
same_index [] i j e f d h k n = absurd (let z : ◌≡◌ {A = ℕ} 0 1 = cc in omega arith)
same_index (x ∷ fs) zero zero e f d h k n = refl
same_index (x ∷ fs) zero (suc j) e f d h k n =
    let p : x ≡ e = cc in
    absurd (not_both (same (name_of x) (name_of f)) (index_each (NamesDiffer x) fs j f k d.0)
    (ap (λ (y : Entry). same (name_of y) (name_of f)) p ∙ ap (λ (m : List ℕ). same m (name_of f)) n ∙ same_refl (name_of f)))
same_index (x ∷ fs) (suc i) zero e f d h k n =
    let p : x ≡ f = cc in
    absurd (not_both (same (name_of x) (name_of e)) (index_each (NamesDiffer x) fs i e h d.0)
    (ap (λ (y : Entry). same (name_of y) (name_of e)) p ∙ ap (λ (m : List ℕ). same m (name_of e)) (sym n) ∙ same_refl (name_of e)))
same_index (x ∷ fs) (suc i) (suc j) e f d h k n = ap suc (same_index fs i j e f d.1 h k n)

-- a live entry is among those kept
in_kept : (P : Entry → Type 0) (xs ys : List Entry) (e : Entry) → alive e ≡ true → Each P (keep alive (xs ++ (e ∷ ys))) → P e
in_kept P [] ys e a k = (subst (Each P) (keep_yes alive e ys a) k).0
in_kept P (z ∷ xs) ys e a k = step (alive z) refl (in_kept P xs ys e a)
  where
    step : (b : Bool) → alive z ≡ b → (Each P (keep alive (xs ++ (e ∷ ys))) → P e) → P e
    step true c ih = ih (subst (Each P) (keep_yes alive z (xs ++ (e ∷ ys)) c) k).1
    step false c ih = ih (subst (Each P) (keep_no alive z (xs ++ (e ∷ ys)) c) k)

-- ---- the bytes of an entry

-- its name and its content stand where get and list say
pub record Stands (im : Image) (e : Entry) : Type 0 where
  pub name : take (length (name_of e)) (drop (e.at + 8) im) ≡ name_of e
  pub content : take (length (content_of e)) (drop (data_at e) im) ≡ content_of e

stands : (im pre post : List ℕ) (e : Entry) → im ≡ pre ++ onto e.it post → length pre ≡ e.at → Stands im e
stands im pre post e q at =
    let n : ℕ = length (name_of e) in
    let d : ℕ = length (content_of e) in
    let m : rec_of (onto e.it post) n d ≡ e.it = rec_of_onto e.it post in
    record {
      name = ap (take n) (ap (drop (e.at + 8)) q ∙ drop_past pre (onto e.it post) (e.at + 8) 8 (omega arith)) ∙ ap (λ (r : Rec). r.name) m;
      content =
          ap (take d)
          (ap (drop (data_at e)) q ∙ drop_past pre (onto e.it post) (data_at e) (8 + up8 (n + 1)) (omega arith)
          ∙ sym (drop-drop (up8 (n + 1)) 8 (onto e.it post)))
          ∙ ap (λ (r : Rec). r.content) m;
    }

-- ---- the calls on a rested image

module _ {l : Ledger} {im : Image} {r : Reading} (q : Rested l im r) where
  es : List Entry
  es = q.es

  fs : List Entry
  fs = keep alive q.es

  entries_are : r.entries ≡ q.es
  entries_are = ap (λ (x : Reading). x.entries) q.is

  unique : Unique q.es
  unique = q.ok.unique

  files_are : files r.entries ≡ fs
  unfolding fs
  files_are = ap files entries_are ∙ files_alive q.es unique

  apart : Pairwise NamesDiffer fs
  unfolding fs
  apart = live_names q.es unique

  all_stand : Each (Stands im) q.es
  all_stand =
      each_split (Stands im) [] q.es (λ xs ys e p.
      let i : Inside im q.h q.S q.t xs e ys Rattle.history.specs.Seg.seg_none _ _ = inside_of q.laid xs ys e p in
      stands im i.pre i.post e i.is i.at)

  files_stand : Each (Stands im) fs
  unfolding fs
  files_stand = each_keep (Stands im) alive q.es (each_map q.es (λ e s k. s) all_stand)

  plan_get : (n : List ℕ) → name_ok n ≡ true → get_plan n im ≡ found getting (file_named n r.entries)
  unfolding get_plan file_plan
  plan_get n ok = rw (get_plan, file_plan, named_good im q.good n ok, rested_settled q)

  plan_list : (i : ℕ) → list_plan i im ≡ found listing (get_elem? (files r.entries) i)
  unfolding list_plan
  plan_list i = rw (list_plan, admitted_good im q.good, rested_settled q)

  carried : (n : Numbers) → (carry_out im 0 (give (looking n))).numbers ≡ n
  unfolding carry_out numbers_of
  carried n = refl

  refused : (n : ℕ) → (carry_out im 0 (refuse (numbered n))).numbers.answer ≡ n
  unfolding carry_out
  refused n = refl

  get_some : (n : List ℕ) (e : Entry) → name_ok n ≡ true → file_named n r.entries ≡ some e
      → (get im n).numbers ≡ (getting e).done
  get_some n e ok f =
      ap (λ (p : Answer Plan). (carry_out im 0 p).numbers) (plan_get n ok ∙ ap (found getting) f)
      ∙ carried (getting e).done

  list_some : (i : ℕ) (e : Entry) → get_elem? fs i ≡ some e → (list im i).numbers ≡ (listing e).done
  list_some i e f =
      ap (λ (p : Answer Plan). (carry_out im 0 p).numbers)
      (plan_list i ∙ ap (λ (x : List Entry). found listing (get_elem? x i)) files_are ∙ ap (found listing) f)
      ∙ carried (listing e).done

  list_name : (i : ℕ) (e : Entry) → get_elem? fs i ≡ some e → part_of im (list im i).numbers ≡ name_of e
  list_name i e f = ap (part_of im) (list_some i e f) ∙ (index_each (Stands im) fs i e f files_stand).name

  lists_at : (i : ℕ) (e : Entry) → get_elem? fs i ≡ some e → Lists im i (name_of e)
  lists_at i e f = (ap (λ (n : Numbers). n.answer) (list_some i e f), list_name i e f)

  size_at : (i : ℕ) (e : Entry) → get_elem? fs i ≡ some e → (list im i).numbers.size ≡ length (content_of e)
  size_at i e f = ap (λ (n : Numbers). n.size) (list_some i e f)

  listed_at : (i : ℕ) (e : Entry) → get_elem? fs i ≡ some e → Listed im (length fs) (as_file e)
  listed_at i e f =
      record {
        index = i;
        below = index_below fs i e f;
        there = lists_at i e f;
        size = size_at i e f;
        once = λ j h p.
            let x = at_index fs j h in
            same_index fs j i x.0 e apart x.1 f (sym (list_name j x.0 x.1) ∙ p.1);
      }

  file_at : (i : ℕ) (e : Entry) → get_elem? fs i ≡ some e → file_named (name_of e) r.entries ≡ some e
  unfolding file_named
  file_at i e f = ap (first_such (has_name (name_of e))) files_are ∙ first_at fs i e apart f

  names_good : Each (λ e. name_ok (name_of e) ≡ true) fs
  unfolding fs
  names_good = each_keep (λ e. name_ok (name_of e) ≡ true) alive q.es q.ok.well_named

  got_at : (i : ℕ) (e : Entry) → get_elem? fs i ≡ some e → Got im (as_file e)
  got_at i e f =
      let g = get_some (name_of e) e (index_each (λ d. name_ok (name_of d) ≡ true) fs i e f names_good) (file_at i e f) in
      record {
        answer = ap (λ (n : Numbers). n.answer) g;
        content = ap (part_of im) g ∙ (index_each (Stands im) fs i e f files_stand).content;
      }

  count_is : length (files r.entries) ≡ length fs
  count_is = ap length files_are

  ledger_length : length fs ≡ length l
  unfolding fs
  ledger_length = sym (length_map (keep alive q.es)) ∙ perm_length q.ok.matches

  -- over the ledger
  over : (P : File → Type 0) → Each (λ e. P (as_file e)) fs → Each P l
  unfolding fs
  over P h = perm_each P q.ok.matches (each_map_file P (keep alive q.es) h)

  -- the ledger maps each entry's name to its content
  maps_at : Distinct l → (i : ℕ) (e : Entry) → get_elem? fs i ≡ some e → Maps l (as_file e)
  unfolding fs
  maps_at d i e f =
      index_each (λ e. Maps l (as_file e)) fs i e f
      (map_each_file (Maps l) (keep alive q.es) (perm_each (Maps l) (Permᴰ.symm q.ok.matches) (maps_each l d)))

  -- an index below the count has a file of the ledger
  indexed_at : Distinct l → (i : ℕ) → i < length fs → Indexed im l i
  indexed_at d i h =
      let x = at_index fs i h in
      record {
        file = as_file x.0;
        mapped = maps_at d i x.0 x.1;
        there = lists_at i x.0 x.1;
        size = size_at i x.0 x.1;
      }

  -- one that is not below it has none
  list_beyond : (i : ℕ) → length fs ≤ i → (list im i).numbers.answer ≡ 2
  list_beyond i h =
      ap (λ (p : Answer Plan). (carry_out im 0 p).numbers.answer)
      (plan_list i ∙ ap (λ (x : List Entry). found listing (get_elem? x i)) files_are ∙ ap (found listing) (past_end fs i h))
      ∙ refused 2

  none_named : (n : List ℕ) → has n l ≡ false → (o : Option Entry) → Old n q.es o → o ≡ none
  none_named n h o x = go x
    where
      absent : Each (λ e. same (name_of e) n ≡ false) (keep alive q.es)
      absent =
          map_each_file (λ f. is_named n f ≡ false) (keep alive q.es)
          (perm_each (λ f. is_named n f ≡ false) (Permᴰ.symm q.ok.matches) (any_none_each (is_named n) l h))

      go : {o : Option Entry} → Old n q.es o → o ≡ none
      go (old_none a) = refl
      go (old_some xs ys e p a m) =
          absurd (not_both (same (name_of e) n)
          (in_kept (λ d. same (name_of d) n ≡ false) xs ys e a
          (subst (λ (z : List Entry). Each (λ d. same (name_of d) n ≡ false) (keep alive z)) p absent))
          (ap (λ (w : List ℕ). same w n) m ∙ same_refl n))

  get_none : (n : List ℕ) → name_ok n ≡ true → has n l ≡ false → (get im n).numbers.answer ≡ 2
  get_none n ok h =
      let f : file_named n r.entries ≡ none = ap (file_named n) entries_are
      ∙ none_named n h (file_named n q.es) (old_file n q.es l q.ok) in
      ap (λ (p : Answer Plan). (carry_out im 0 p).numbers.answer) (plan_get n ok ∙ ap (found getting) f) ∙ refused 2

  -- list and get on a rested image
  pub rested_shows : Distinct l → Shows im (length (files r.entries)) l
  rested_shows d =
      record {
        counted = count_is ∙ ledger_length;
        listed =
            subst (λ (k : ℕ). Each (Listed im k) l) (sym count_is)
            (over (Listed im (length fs)) (each_index (λ e. Listed im (length fs) (as_file e)) fs listed_at));
        only = λ i h. indexed_at d i (subst (λ (k : ℕ). i < k) count_is h);
        beyond = λ i h. list_beyond i (subst (λ (k : ℕ). k ≤ i) count_is h);
        got = over (Got im) (each_index (λ e. Got im (as_file e)) fs got_at);
        others = get_none;
      }
