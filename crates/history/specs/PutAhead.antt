-- What put leaves: the live records of the head's sector fit one after another, for put's rule has placed just these (put_ahead).
use Rattle.std.specs.Prelude.{ℕ, ◌≡◌, refl, Bool, true, false, not, List, [], ◌∷◌, ◌++◌, map, length, eqb}
use Rattle.std.proofs.Common.{sym, ap, ap₂, ◌∙◌, subst, append_assoc}
use Rattle.std.proofs.lemmas.List.{map-append}
use Rattle.spec.specs.declared.Ending.{Ending}
use Rattle.spec.specs.declared.Place.{Place}
use Rattle.spec.specs.Step.{Image}
use Rattle.spec.specs.Basics.{Each, keep, same}
use Rattle.spec.specs.Geometry.{floor}
use Rattle.spec.specs.Record.{Entry, name_of, size}
use Rattle.spec.specs.Chain.{Reading, read, reading_from}
use Rattle.spec.specs.Files.{files}
use Rattle.spec.specs.Place.{fits_all, place_after, address, other_name, largest_with, in_head_sector, begins_there, standing, joining}
use Rattle.spec.specs.Place.{room}
use Rattle.spec.specs.History.{Ledger}
use Rattle.spec.specs.Progress.{to_pass}
use Rattle.laws.specs.Lists.{keep_yes, keep_no, each_map}
use Rattle.history.specs.Lists.{keep_same, keep_append, keep_all, keep_swap, each_keep, pairwise_before, pairwise_behind}
use Rattle.history.specs.Store.{alive, files_alive, same_sym, Unique}
use Rattle.history.specs.Ledger.{Absent}
use Rattle.history.specs.Kinds.{Rested}
use Rattle.history.specs.OkLaws.{same_refl}
use Rattle.history.specs.PutOld.{gone, gone_dead}
use Rattle.history.specs.Places.{fits_all_is, fit_next, fit_some}
use Rattle.history.specs.Landing.{AfterPut}
use Rattle.history.specs.Ahead.{live_sizes, Ahead, led_room}
use Rattle.history.specs.HeadSector.{near, Split, split}

-- ---- what put leaves: the live records are those that stood, the replaced one out, and the new one

-- no live record has this name
others : (n : List ℕ) (es : List Entry) → Absent n es → keep (other_name n) (keep alive es) ≡ keep alive es
others n es a =
    keep_all (other_name n) (keep alive es)
    (each_keep (λ (e : Entry). other_name n e ≡ true) alive es (each_map es (λ e h k. ap not (h k)) a))

module _ (n : List ℕ) (new : Entry) (fresh : alive new ≡ true) where
  -- a new name
  pub live_new : (es : List Entry) → Unique es → Absent n es → keep alive (es ++ (new ∷ [])) ≡ keep (other_name n) (files es) ++ (new ∷ [])
  live_new es u a =
      keep_append alive es (new ∷ [])
      ∙ ap₂ (λ (x y : List Entry). x ++ y) (sym (others n es a) ∙ ap (keep (other_name n)) (sym (files_alive es u)))
      (keep_yes alive new [] fresh)

  -- a file replaced
  pub live_over : (xs ys : List Entry) (e : Entry) → Unique (xs ++ (e ∷ ys)) → alive e ≡ true → name_of e ≡ n →
      keep alive (xs ++ (gone e ∷ (ys ++ (new ∷ [])))) ≡ keep (other_name n) (files (xs ++ (e ∷ ys))) ++ (new ∷ [])
  live_over xs ys e u a m =
      keep_append alive xs (gone e ∷ (ys ++ (new ∷ [])))
      ∙ ap (λ (z : List Entry). keep alive xs ++ z)
      (keep_no alive (gone e) (ys ++ (new ∷ [])) (gone_dead e) ∙ keep_append alive ys (new ∷ [])
      ∙ ap (λ (z : List Entry). keep alive ys ++ z) (keep_yes alive new [] fresh))
      ∙ sym (append_assoc (keep alive xs) (keep alive ys) (new ∷ []))
      ∙ ap (λ (z : List Entry). z ++ (new ∷ [])) (sym old)
    where
      before : Absent n xs
      before = each_map xs (λ x h k. subst (λ (z : List ℕ). same (name_of x) z ≡ false) m (h k a)) (pairwise_before _ xs ys e u)

      behind : Absent n ys
      behind =
          each_map ys (λ y h k. subst (λ (z : List ℕ). same (name_of y) z ≡ false) m (same_sym (name_of y) (name_of e) ∙ h a k))
          (pairwise_behind _ xs ys e u)

      old : keep (other_name n) (files (xs ++ (e ∷ ys))) ≡ keep alive xs ++ keep alive ys
      old =
          ap (keep (other_name n)) (files_alive (xs ++ (e ∷ ys)) u ∙ keep_append alive xs (e ∷ ys))
          ∙ keep_append (other_name n) (keep alive xs) (keep alive (e ∷ ys))
          ∙ ap₂ (λ (y z : List Entry). y ++ z) (others n xs before)
          (ap (keep (other_name n)) (keep_yes alive e ys a)
          ∙ keep_no (other_name n) e (keep alive ys) (ap not (ap (λ (z : List ℕ). same z n) m ∙ same_refl n)) ∙ others n ys behind)

-- the new record's size, if it begins there
joined_size : (p : Place) (s : ℕ) (new : Entry) → size new ≡ s → new.at ≡ address p s
    → map size (keep (begins_there p) (new ∷ [])) ≡ joining p s
unfolding joining
joined_size p s new e a = go (in_head_sector p (address p s)) refl
  where
    go : (b : Bool) → in_head_sector p (address p s) ≡ b
        → map size (keep (begins_there p) (new ∷ []))
        ≡ elim (in_head_sector p (address p s)) as (λ x. List ℕ) [ true ↦ s ∷ [] | false ↦ [] ]
    go true k =
        ap (map size) (keep_yes (begins_there p) new [] (ap (in_head_sector p) a ∙ k)) ∙ ap (λ (z : ℕ). z ∷ []) e
        ∙ sym (ap (λ (b : Bool). elim b as (λ x. List ℕ) [ true ↦ s ∷ [] | false ↦ [] ]) k)
    go false k =
        ap (map size) (keep_no (begins_there p) new [] (ap (in_head_sector p) a ∙ k))
        ∙ sym (ap (λ (b : Bool). elim b as (λ x. List ℕ) [ true ↦ s ∷ [] | false ↦ [] ]) k)

-- the sizes that the rule has placed
placed_sizes : (p : Place) (n : List ℕ) (s : ℕ) (es fs : List Entry) (new : Entry) → size new ≡ s → new.at ≡ address p s
    → keep alive fs ≡ keep (other_name n) (files es) ++ (new ∷ []) → live_sizes (keep (begins_there p) fs) ≡ standing p n es ++ joining p s
unfolding standing
placed_sizes p n s es fs new e a k =
    ap (map size) (keep_swap alive (begins_there p) fs ∙ ap (keep (begins_there p)) k
    ∙ keep_append (begins_there p) (keep (other_name n) (files es)) (new ∷ []))
    ∙ map-append size (keep (begins_there p) (keep (other_name n) (files es))) (keep (begins_there p) (new ∷ []))
    ∙ ap (λ (z : List ℕ). map size (keep (begins_there p) (keep (other_name n) (files es))) ++ z) (joined_size p s new e a)

-- behind the new record they fit one after another
room_placed : (p : Place) (n : List ℕ) (s : ℕ) (es : List Entry) → room p n s es ≡ true
    → fits_all (place_after p s) (standing p n es ++ joining p s) ≡ true
unfolding room
room_placed p n s es e =
    let L : List ℕ = largest_with n s es ∷ largest_with n s es ∷ [] in
    fit_some (place_after p s) (standing p n es ++ joining p s) L
    (ap (fits_all (place_after p s)) (append_assoc (standing p n es) (joining p s) L)
    ∙ fit_next p s (standing p n es ++ (joining p s ++ L)) e)

near_is : (p : Place) (h : ℕ) → p.head ≡ h → (e : Entry) → begins_there p e ≡ near h e
unfolding in_head_sector
near_is p h k e = ap (λ (a : ℕ). eqb (floor e.at) (floor a)) k

-- ---- what is ahead after a put

-- J is the image that put leaves, fs its records
module _ {l : Ledger} {J : Image} {r : Reading} (p : Rested l J r) (P : Place) (n : List ℕ) (s h : ℕ) (es fs : List Entry) (new : Entry)
    (led : AfterPut J h P s fs) (is : r ≡ reading_from J h) (hd : P.head ≡ h) (len : P.length ≡ length J)
    (rule : room P n s es ≡ true) (sz : size new ≡ s) (a : new.at ≡ address P s)
    (k : keep alive fs ≡ keep (other_name n) (files es) ++ (new ∷ [])) where
  R : r ≡ read (length J) h led.T led.u fs Ending.Tail
  R = is ∙ led.reads

  -- the records of the head's sector are the first
  parted : Split h fs
  parted =
      subst (Split h) (sym (ap (λ (y : Reading). y.entries) p.is) ∙ ap (λ (y : Reading). y.entries) R)
      (subst (λ (i : ℕ). Split i p.es) (sym (ap (λ (y : Reading). y.place.head) p.is) ∙ ap (λ (y : Reading). y.place.head) R)
      (split p.laid))

  front_sizes : live_sizes parted.front ≡ standing P n es ++ joining P s
  front_sizes =
      ap live_sizes (sym parted.kept ∙ sym (keep_same (begins_there P) (near h) fs (each_of fs))) ∙ placed_sizes P n s es fs new sz a k
    where
      each_of : (fs : List Entry) → Each (λ e. begins_there P e ≡ near h e) fs
      each_of [] = tt
      each_of (e ∷ fs) = (near_is P h hd e, each_of fs)

  after_room : fits_all (record { head = h; tail = led.T; turned = led.u; length = length J }) (live_sizes parted.front) ≡ true
  after_room =
      let ss : List ℕ = live_sizes parted.front in
      let at : Place = record { head = h; tail = led.T; turned = led.u; length = length J } in
      fits_all_is at ss ∙ led_room led hd len parted.front (ap (fits_all (place_after P s)) front_sizes ∙ room_placed P n s es rule)

  pub put_ahead : Ahead (to_pass r) r
  put_ahead =
      subst (λ (y : Reading). Ahead (to_pass y) y) (sym R)
      (record {
        front = parted.front;
        rest = parted.rest;
        is = parted.is;
        count = ap length (sym parted.kept ∙ sym (keep_same (begins_there at) (near h) fs (each_of fs)));
        there = parted.there;
        room = after_room;
      })
    where
      at : Place
      at = record { head = h; tail = led.T; turned = led.u; length = length J }

      each_of : (fs : List Entry) → Each (λ e. begins_there at e ≡ near h e) fs
      each_of [] = tt
      each_of (e ∷ fs) = (near_is at h refl e, each_of fs)
