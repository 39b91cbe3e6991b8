-- Put's room rule as a fold over the files that stay: the sizes of those that begin in the head's sector are placed one after another,
-- and the largest of all sizes is kept.
use Prim.Native.Nat.{ℕ, ◌≤◌, ◌<◌, max}
use Rattle.std.proofs.Common.{arith, ◌∙◌}
use Rattle.std.specs.Prelude.{◌≡◌, refl, Bool, None, length}
use Rattle.std.proofs.Math.Path.{sym, ap, ap₂}
use Rattle.std.proofs.Math.Bool.{true, false}
use mathlib.Core.List.{List, [], ◌∷◌, ◌++◌, map}
use Rattle.spec.specs.declared.Place.{Place}
use Rattle.spec.specs.Step.{Image}
use Rattle.spec.specs.Basics.{keep, any}
use Rattle.spec.specs.Record.{Entry, size_of, size}
use Rattle.spec.specs.Chain.{Reading}
use Rattle.spec.specs.Files.{superseded, has_name}
use Rattle.spec.specs.Place.{address, largest, other_name, largest_with, in_head_sector, begins_there, standing, joining, room}
use Rattle.spec.specs.Placed.{Placed, placed}
use Rattle.room.specs.declared.Stowed.{Stowed}
use Rattle.chain.specs.declared.Cursor.{Cursor}
use Rattle.chain.specs.declared.Spot.{Spot}
use Rattle.chain.specs.declared.Item.{Item}
use Rattle.reading.specs.declared.Survey.{Survey}
use Rattle.chain.specs.Cursor.{advance}
use Rattle.chain.specs.Rest.{Run, entry_of, rest}
use Rattle.chain.specs.Fold.{Whole, name_length_is, content_length_is, Passes, NotRecord, Folded, fold_end, fold_step}
use Rattle.chain.specs.FileLaws.{is_file}
use Rattle.reading.specs.NamesLaw.{files_are}
use Rattle.chain.specs.FreeLaws.{InImage}
use Rattle.reading.specs.Read.{reading_of, Surveyed}
use Rattle.room.specs.Stows.{stow, stow_all, has_place, stow_append, fits_stowed, none_fit, too_long}

-- a survey, where nothing is superseded
pub record Unsuperseded (image : List ℕ) (s : Survey) : Type 0 where
  pub surveyed : Surveyed image s
  pub quiet : any (superseded (reading_of image s).entries) (reading_of image s).entries ≡ false

-- whether the rule gives room to a file of this name with d data bytes
abbrev pub room_in : Reading → List ℕ → ℕ → Bool
room_in r name d = room r.place name (size_of (length name) d) r.entries

-- ---- the fold

-- the files of other names, where nothing is superseded
abbrev pub others : List ℕ → List Entry → List Entry
others name es = keep (other_name name) (keep is_file es)

-- a size more: placed if its record begins in the head's sector
abbrev pub with_size : Bool → ℕ → Stowed → Stowed
with_size there s x = record { placed = elim there [ true ↦ stow x.placed s | false ↦ x.placed ]; largest = max x.largest s }

abbrev pub stow_files : Place → Stowed → List Entry → Stowed
stow_files p x [] = x
stow_files p x (e ∷ es) = stow_files p (with_size (begins_there p e) (size e) x) es

-- the rule's end: the new record again if it begins in the head's sector, and the largest twice
abbrev pub last_fit : Place → ℕ → Stowed → Bool
last_fit p s x = has_place (stow (stow (stow_all x.placed (joining p s)) x.largest) x.largest)

-- ---- one size

module _ (x : Stowed) (s k : ℕ) (t : Bool) (m : k ≡ max x.largest s) where
  pub size_placed : (y : Placed) → y ≡ stow x.placed s → t ≡ true → record { placed = y; largest = k } ≡ with_size t s x
  size_placed y e h = rw h (ap₂ (λ (z : Placed) (l : ℕ). record { placed = z; largest = l }) e m)

  pub size_compared : t ≡ false → record { placed = x.placed; largest = k } ≡ with_size t s x
  size_compared h = rw h (ap (λ (l : ℕ). record { placed = x.placed; largest = l }) m)

module _ (p : Place) (a s : ℕ) (x : Placed) (q : a ≡ address p s) where
  pub new_placed : in_head_sector p a ≡ true → stow x s ≡ stow_all x (joining p s)
  unfolding joining stow_all
  new_placed h = let k : in_head_sector p (address p s) ≡ true = ap (in_head_sector p) (sym q) ∙ h in rw (joining, k)

  pub new_elsewhere : in_head_sector p a ≡ false → x ≡ stow_all x (joining p s)
  unfolding joining stow_all
  new_elsewhere h = let k : in_head_sector p (address p s) ≡ false = ap (in_head_sector p) (sym q) ∙ h in rw (joining, k)

-- ---- one record

module _ (p : Place) (name : List ℕ) (x : Entry) (m : Stowed) where
  pub stow_no_file : is_file x ≡ false → m ≡ stow_files p m (others name (x ∷ []))
  stow_no_file h = rw (h, keep)

  pub stow_replaced : is_file x ≡ true → has_name name x ≡ true → m ≡ stow_files p m (others name (x ∷ []))
  stow_replaced h g = rw (h, keep, g)

  stow_other : is_file x ≡ true → has_name name x ≡ false → with_size (begins_there p x) (size x) m ≡ stow_files p m (others name (x ∷ []))
  stow_other h g = rw (h, keep, g)

  -- the rest goes on from there
  stow_first : (xs : List Entry)
      → stow_files p m (others name (x ∷ xs)) ≡ stow_files p (stow_files p m (others name (x ∷ []))) (others name xs)
  stow_first xs = go (is_file x) (has_name name x) refl refl where
    go : (t u : Bool) → is_file x ≡ t → has_name name x ≡ u
        → stow_files p m (others name (x ∷ xs)) ≡ stow_files p (stow_files p m (others name (x ∷ []))) (others name xs)
    go true true h g = rw (h, keep, g)
    go true false h g = rw (h, keep, g)
    go false u h g = rw (h, keep)

-- a file of another name counts by its size
pub stow_by : (p : Place) (name image : List ℕ) (e : Spot) (m : Stowed) (s : ℕ) → Whole image e → s ≡ size_of e.n e.d
    → is_file (entry_of image e) ≡ true → has_name name (entry_of image e) ≡ false
    → with_size (in_head_sector p e.at) s m ≡ stow_files p m (others name (entry_of image e ∷ []))
stow_by p name image e m s w q h g =
    ap (λ (k : ℕ). with_size (in_head_sector p e.at) k m)
    (q ∙ sym (ap₂ size_of (name_length_is image e w) (content_length_is image e w)))
    ∙ stow_other p name (entry_of image e) m h g

-- ---- a record outside the head's sector: only the largest size may move

-- the largest so far, with the size of a record; f: it is a file, n: of the name that is put
abbrev pub larger : Bool → Bool → ℕ → ℕ → ℕ
larger false n s l = l
larger true true s l = l
larger true false s l = max l s

pub larger_not : (f n : Bool) (s l : ℕ) → s ≤ l → l ≡ larger f n s l
larger_not false n s l h = refl
larger_not true true s l h = refl
larger_not true false s l h = omega arith

module _ (p : Place) (name : List ℕ) (x : Entry) (m : Stowed) (far : begins_there p x ≡ false) where
  stow_far : record { placed = m.placed; largest = larger (is_file x) (has_name name x) (size x) m.largest }
      ≡ stow_files p m (others name (x ∷ []))
  stow_far = go (is_file x) (has_name name x) refl refl where
    go : (f n : Bool) → is_file x ≡ f → has_name name x ≡ n
        → record { placed = m.placed; largest = larger f n (size x) m.largest } ≡ stow_files p m (others name (x ∷ []))
    go false n h g = stow_no_file p name x m h
    go true true h g = stow_replaced p name x m h g
    go true false h g = size_compared m (size x) _ (begins_there p x) refl far ∙ stow_other p name x m h g

pub stow_past : (p : Place) (name image : List ℕ) (e : Spot) (m : Stowed) (s k : ℕ) → Whole image e → s ≡ size_of e.n e.d
    → in_head_sector p e.at ≡ false
    → k ≡ larger (is_file (entry_of image e)) (has_name name (entry_of image e)) s m.largest
    → record { placed = m.placed; largest = k } ≡ stow_files p m (others name (entry_of image e ∷ []))
stow_past p name image e m s k w q far h =
    let x = entry_of image e in
    let z : s ≡ size x = q ∙ sym (ap₂ size_of (name_length_is image e w) (content_length_is image e w)) in
    ap (λ (l : ℕ). record { placed = m.placed; largest = l })
    (h ∙ ap (λ (i : ℕ). larger (is_file x) (has_name name x) i m.largest) z)
    ∙ stow_far p name x m far

-- ---- the loop

abbrev pub stow_of : Place → List ℕ → Stowed → Run → Stowed
stow_of p name m r = stow_files p m (others name r.entries)

module _ (p : Place) (name : List ℕ) {image : List ℕ} {start c : Cursor} {m₀ m : Stowed}
    (w : Folded (stow_of p name) image start m₀ c m) where
  pub stow_over : (r : Item) → r ≡ advance image c → NotRecord r → m ≡ stow_files p m₀ (others name (rest image start).entries)
  stow_over r e z = fold_end (stow_of p name) image start m₀ c m w r e z

  pub stow_onward : {e : Spot} {next : Cursor} → Passes image c e next → (k : Stowed)
      → k ≡ stow_files p m (others name (entry_of image e ∷ [])) → Folded (stow_of p name) image start m₀ next k
  stow_onward {e} {next} t k h =
      fold_step (stow_of p name) image start m₀ c m w e next t k
      (stow_first p name (entry_of image e) m (rest image next).entries
      ∙ ap (λ (j : Stowed). stow_files p j (others name (rest image next).entries)) (sym h))

-- ---- the rule

-- what the fold places and keeps, in the definitions' words
stowed_places : (p : Place) (x : Stowed) (es : List Entry)
    → (stow_files p x es).placed ≡ stow_all x.placed (map size (keep (begins_there p) es))
unfolding stow_all
stowed_places p x [] = refl
stowed_places p x (e ∷ es) = go (begins_there p e) refl (λ y. stowed_places p y es) where
  ahead : Stowed → Type 0
  ahead y = (stow_files p y es).placed ≡ stow_all y.placed (map size (keep (begins_there p) es))

  go : (t : Bool) → begins_there p e ≡ t → ((y : Stowed) → ahead y)
      → (stow_files p x (e ∷ es)).placed ≡ stow_all x.placed (map size (keep (begins_there p) (e ∷ es)))
  go true h ih = ap (λ (b : Bool). (stow_files p (with_size b (size e) x) es).placed) h ∙ ih (with_size true (size e) x) ∙ rw (h, keep)
  go false h ih = ap (λ (b : Bool). (stow_files p (with_size b (size e) x) es).placed) h ∙ ih (with_size false (size e) x) ∙ rw (h, keep)

stowed_largest : (p : Place) (x : Stowed) (es : List Entry) → (stow_files p x es).largest ≡ largest x.largest es
stowed_largest p x [] = refl
stowed_largest p x (e ∷ es) = stowed_largest p (with_size (begins_there p e) (size e) x) es

module _ (p : Place) (name : List ℕ) (s : ℕ) (es : List Entry) where
  pub room_long : (image : Image) → InImage image p → p.length < s → false ≡ room p name s es
  unfolding room
  room_long image i l = sym (too_long image p s _ i l)

  pub room_full : placed p s ≡ None → false ≡ room p name s es
  unfolding room
  room_full e = sym (none_fit p s _ e)

  -- the new record, and no file yet
  abbrev new : Stowed
  new = record { placed = placed p s; largest = s }

  -- behind the last file the rule's end decides
  room_by : any (superseded es) es ≡ false → last_fit p s (stow_files p new (others name es)) ≡ room p name s es
  unfolding room standing largest_with stow_all
  room_by q =
      let x : Stowed = stow_files p new (others name es) in
      let l : ℕ = largest_with name s es in
      let places : x.placed ≡ stow_all (placed p s) (standing p name es) =
      stowed_places p new (others name es)
      ∙ ap (λ (fs : List Entry). stow_all (placed p s) (map size (keep (begins_there p) (keep (other_name name) fs))))
      (sym (files_are es q)) in
      let most : x.largest ≡ l =
      stowed_largest p new (others name es) ∙ ap (λ (fs : List Entry). largest s (keep (other_name name) fs)) (sym (files_are es q)) in
      ap₂ (λ (y : Placed) (k : ℕ). has_place (stow (stow (stow_all y (joining p s)) k) k)) places most
      ∙ sym (fits_stowed p s (standing p name es ++ (joining p s ++ (l ∷ l ∷ [])))
      ∙ ap has_place (stow_append (placed p s) (standing p name es) (joining p s ++ (l ∷ l ∷ []))
      ∙ stow_append (stow_all (placed p s) (standing p name es)) (joining p s) (l ∷ l ∷ [])))

  -- from what the code found: the new record's size and place, the state behind the last file, the answer
  pub room_found : any (superseded es) es ≡ false → (k : ℕ) (first : Placed) (x : Stowed) (r : Bool) → k ≡ s → first ≡ placed p k
      → x ≡ stow_files p (record { placed = first; largest = k }) (others name es) → r ≡ last_fit p k x → r ≡ room p name s es
  room_found q k first x r a b c d =
      d ∙ ap (last_fit p k) (c ∙ ap (λ (y : Placed). stow_files p (record { placed = y; largest = k }) (others name es)) b)
      ∙ ap (λ (j : ℕ). last_fit p j (stow_files p (record { placed = placed p j; largest = j }) (others name es))) a
      ∙ room_by q
