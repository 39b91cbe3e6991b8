-- The first file whose name has a hash: what the pass of a judgement keeps for a call that asks for a name, and what it tells of the name.
use Rattle.std.specs.Prelude.{ℕ, ◌≡◌, refl, Bool, true, false, ◌&&◌, List, [], ◌∷◌, ◌++◌, eqb, None, Some}
use Rattle.std.proofs.Common.{sym, ap, subst, ◌∙◌, eq-eqb}
use Rattle.std.proofs.Math.Option.{Option, none, some}
use Rattle.spec.specs.Basics.{keep, first_such}
use Rattle.spec.specs.Record.{Entry, name_of}
use Rattle.spec.specs.Files.{has_name}
use Rattle.laws.specs.Tests.{wrong}
use Rattle.laws.specs.Lists.{same_is, keep_yes, keep_no, first_yes, first_no}
use Rattle.chain.specs.declared.Spot.{Spot}
use Rattle.chain.specs.Answers.{Found}
use Rattle.reading.specs.declared.Sight.{Sight}
use Rattle.chain.specs.Rest.{entry_of}
use Rattle.chain.specs.Fold.{Whole}
use Rattle.chain.specs.FileLaws.{is_file}
use Rattle.chain.specs.Seek.{found_in, FoundWhole}
use Rattle.filter.specs.Hash.{name_hash}

abbrev pub hash_of : Entry → ℕ
hash_of e = name_hash (name_of e)

abbrev pub has_hash : ℕ → Entry → Bool
has_hash h e = eqb (hash_of e) h

abbrev pub not_seen : Sight
not_seen = record { seen = 0; spot = record { at = 0; n = 0; d = 0 } }

abbrev pub found_at : Bool → Spot → Found
found_at true e = None
found_at false e = Some e

abbrev pub found_of : Sight → Found
found_of f = found_at (eqb f.seen 0) f.spot

abbrev pub seen_by : Bool → Sight → Spot → Sight
seen_by true f e = record { seen = 1; spot = e }
seen_by false f e = f

-- what was seen; or e, where it is the first that fits
abbrev pub seen_or : Bool → Sight → Spot → Sight
seen_or fits f e = seen_by (fits && eqb f.seen 0) f e

-- f is the first file among es whose name has this hash
pub record Sought (image : List ℕ) (wanted : ℕ) (es : List Entry) (f : Found) : Type 0 where
  pub first : found_in image f ≡ first_such (has_hash wanted) (keep is_file es)
  pub whole : FoundWhole image f

-- ---- one record more

abbrev or_else : Bool → Option Entry → Entry → Option Entry
or_else false o e = o
or_else true (some x) e = some x
or_else true none e = some e

module _ (p q : Entry → Bool) (e : Entry) where
  only : (s t : Bool) → q e ≡ s → p e ≡ t → first_such p (keep q (e ∷ [])) ≡ or_else (s && t) none e
  only true true g h = ap (first_such p) (keep_yes q e [] g) ∙ first_yes p e [] h
  only true false g h = ap (first_such p) (keep_yes q e [] g) ∙ first_no p e [] h
  only false t g h = ap (first_such p) (keep_no q e [] g)

  kept_first : (t : Bool) (x : Entry) → some x ≡ or_else t (some x) e
  kept_first true x = refl
  kept_first false x = refl

  first_last : (es : List Entry) → first_such p (keep q (es ++ e ∷ [])) ≡ or_else (q e && p e) (first_such p (keep q es)) e
  first_last [] = only _ _ refl refl
  first_last (x ∷ es) = go (q x) (p x) refl refl (first_last es) where
    go : (s t : Bool) → q x ≡ s → p x ≡ t
        → first_such p (keep q (es ++ e ∷ [])) ≡ or_else (q e && p e) (first_such p (keep q es)) e
        → first_such p (keep q (x ∷ (es ++ e ∷ []))) ≡ or_else (q e && p e) (first_such p (keep q (x ∷ es))) e
    go true true g h ih =
        ap (first_such p) (keep_yes q x (es ++ e ∷ []) g) ∙ first_yes p x (keep q (es ++ e ∷ [])) h ∙ kept_first (q e && p e) x
        ∙ sym (ap (λ (o : Option Entry). or_else (q e && p e) o e) (ap (first_such p) (keep_yes q x es g) ∙ first_yes p x (keep q es) h))
    go true false g h ih =
        ap (first_such p) (keep_yes q x (es ++ e ∷ []) g) ∙ first_no p x (keep q (es ++ e ∷ [])) h ∙ ih
        ∙ sym (ap (λ (o : Option Entry). or_else (q e && p e) o e) (ap (first_such p) (keep_yes q x es g) ∙ first_no p x (keep q es) h))
    go false t g h ih =
        ap (first_such p) (keep_no q x (es ++ e ∷ []) g) ∙ ih
        ∙ sym (ap (λ (o : Option Entry). or_else (q e && p e) o e) (ap (first_such p) (keep_no q x es g)))

module _ {image : List ℕ} (e : Spot) (w : Whole image e) where
  found_is : (t s : Bool) (f : Sight) → eqb f.seen 0 ≡ s
      → found_in image (found_of (seen_or t f e)) ≡ or_else t (found_in image (found_of f)) (entry_of image e)
  found_is true true f h =
      ap (λ (b : Bool). found_in image (found_of (seen_by b f e))) h
      ∙ sym (ap (λ (b : Bool). or_else true (found_in image (found_at b f.spot)) (entry_of image e)) h)
  found_is true false f h =
      ap (λ (b : Bool). found_in image (found_of (seen_by b f e))) h ∙ ap (λ (b : Bool). found_in image (found_at b f.spot)) h
      ∙ sym (ap (λ (b : Bool). or_else true (found_in image (found_at b f.spot)) (entry_of image e)) h)
  found_is false s f h = refl

  found_whole : (t s : Bool) (f : Sight) → eqb f.seen 0 ≡ s → FoundWhole image (found_of f)
      → FoundWhole image (found_of (seen_or t f e))
  found_whole true true f h g = subst (λ (b : Bool). FoundWhole image (found_of (seen_by b f e))) (sym h) w
  found_whole true false f h g = subst (λ (b : Bool). FoundWhole image (found_of (seen_by b f e))) (sym h) g
  found_whole false s f h g = g

  pub sought_more : {wanted : ℕ} {es : List Entry} (f : Sight) → Sought image wanted es (found_of f)
      → Sought image wanted (es ++ entry_of image e ∷ [])
      (found_of (seen_or (is_file (entry_of image e) && has_hash wanted (entry_of image e)) f e))
  sought_more {wanted} {es} f h =
      let x = entry_of image e in
      let t = is_file x && has_hash wanted x in
      record {
        first =
            found_is t _ f refl ∙ ap (λ (o : Option Entry). or_else t o x) h.first ∙ sym (first_last (has_hash wanted) is_file x es);
        whole = found_whole t _ f refl h.whole;
      }

pub sought_none : (image : List ℕ) (wanted : ℕ) → Sought image wanted [] None
sought_none image wanted = record { first = refl; whole = tt }

-- ---- what the hash tells of the name

-- q passes only where p does
module _ (p q : Entry → Bool) (narrow : (x : Entry) → q x ≡ true → p x ≡ true) where
  narrow_no : (x : Entry) → p x ≡ false → q x ≡ false
  narrow_no x h = go (q x) refl where
    go : (t : Bool) → q x ≡ t → q x ≡ false
    go true g = wrong (sym h ∙ narrow x g)
    go false g = g

  none_narrow : (xs : List Entry) → first_such p xs ≡ none → first_such q xs ≡ none
  none_narrow [] h = refl
  none_narrow (x ∷ xs) h = go (p x) refl (none_narrow xs) where
    go : (t : Bool) → p x ≡ t → (first_such p xs ≡ none → first_such q xs ≡ none) → first_such q (x ∷ xs) ≡ none
    go true g ih = let z : some x ≡ none = sym (first_yes p x xs g) ∙ h in cc
    go false g ih = first_no q x xs (narrow_no x g) ∙ ih (sym (first_no p x xs g) ∙ h)

  some_narrow : (e : Entry) → q e ≡ true → (xs : List Entry) → first_such p xs ≡ some e → first_such q xs ≡ some e
  some_narrow e k [] h = cc
  some_narrow e k (x ∷ xs) h = go (p x) refl (some_narrow e k xs) where
    go : (t : Bool) → p x ≡ t → (first_such p xs ≡ some e → first_such q xs ≡ some e) → first_such q (x ∷ xs) ≡ some e
    go true g ih =
        let z : some x ≡ some e = sym (first_yes p x xs g) ∙ h in
        let y : x ≡ e = cc in
        first_yes q x xs (ap q y ∙ k) ∙ z
    go false g ih = first_no q x xs (narrow_no x g) ∙ ih (sym (first_no p x xs g) ∙ h)

same_hash : (name : List ℕ) (x : Entry) → has_name name x ≡ true → has_hash (name_hash name) x ≡ true
same_hash name x h = eq-eqb (hash_of x) (name_hash name) (ap (name_hash) (same_is (name_of x) name h))

module _ {image : List ℕ} (name : List ℕ) {es : List Entry} where
  -- no file has the hash, and none the name
  pub named_none : Sought image (name_hash name) es None → none ≡ first_such (has_name name) (keep is_file es)
  named_none h = sym (none_narrow (has_hash (name_hash name)) (has_name name) (same_hash name) (keep is_file es) (sym h.first))

  -- the first that has the hash has the name
  pub named_some : {e : Spot} → Sought image (name_hash name) es (Some e) → has_name name (entry_of image e) ≡ true
      → some (entry_of image e) ≡ first_such (has_name name) (keep is_file es)
  named_some {e} h k =
      let p = has_hash (name_hash name) in
      sym (some_narrow p (has_name name) (same_hash name) (entry_of image e) k (keep is_file es) (sym h.first))
