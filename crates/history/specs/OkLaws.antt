-- What a change of one record does to the live files (Ok): a file added, replaced, removed, or left as it is. On lists of records alone.
use Rattle.std.specs.Prelude.{ℕ, ◌≡◌, refl, Bool, true, false, not}
use Rattle.std.proofs.Common.{sym, ap, ◌∙◌, subst, eq-eqb}
use Rattle.std.proofs.Math.Option.{Option, none, some}
use mathlib.Core.List.{List, [], ◌∷◌, ◌++◌, map, append-nil, append_assoc, Permᴰ}
use Rattle.spec.specs.Basics.{same, keep, first_such}
use Rattle.spec.specs.Record.{name_ok, Entry, name_of, content_of}
use Rattle.spec.specs.Files.{named, named_as, has_named, has_name, file_named}
use Rattle.spec.specs.History.{File, Ledger, not_named, without, with_file}
use Rattle.laws.specs.Lists.{keep_no, keep_yes, first_yes, first_no, same_is, each_map, each_append}
use Rattle.history.specs.Lists.{each_end, each_swap, each_insert, each_without, each_at, each_all}
use Rattle.history.specs.Lists.{pairwise_end, pairwise_without, pairwise_before, pairwise_behind, pairwise_insert, any_last}
use Rattle.laws.specs.Tests.{not_both}
use Rattle.history.specs.Store.{same_sym, alive, Apart, Unique, WellNamed, fc_alive, f8_alive, dead_apart, dead_named, files_alive}
use Rattle.history.specs.Ledger.{as_file, contents, Matches, Absent, perm_keep, keep_contents, contents_append, contents_one}
use Rattle.history.specs.Ledger.{matches_dead}
use Rattle.history.specs.Shadow.{Shadowed}
use Rattle.history.specs.Kinds.{Ok, Bytes, LiveBytes}

-- ---- names

-- a name is the same as itself
pub same_refl : (s : List ℕ) → same s s ≡ true
unfolding same
same_refl [] = refl
same_refl (x ∷ s) = rw (same, eq-eqb x x refl) (same_refl s)

-- ---- the files, with one record among others

contents_dead : (xs ys : List Entry) (e : Entry) → alive e ≡ false → contents (xs ++ (e ∷ ys)) ≡ contents (xs ++ ys)
contents_dead xs ys e a =
    contents_append xs (e ∷ ys) ∙ ap (λ (fs : List Entry). contents xs ++ map as_file fs) (keep_no alive e ys a) ∙ sym (contents_append xs ys)

contents_mid : (xs ys : List Entry) (e : Entry) → alive e ≡ true → contents (xs ++ (e ∷ ys)) ≡ contents xs ++ (as_file e ∷ contents ys)
contents_mid xs ys e a = contents_append xs (e ∷ ys) ∙ ap (λ (fs : List Entry). contents xs ++ map as_file fs) (keep_yes alive e ys a)

contents_front : (xs ys : List Entry) (e : Entry) → alive e ≡ true → Permᴰ (contents (xs ++ (e ∷ ys))) (as_file e ∷ contents (xs ++ ys))
contents_front xs ys e a =
    subst (λ (fs : List File). Permᴰ fs (as_file e ∷ contents (xs ++ ys))) (sym (contents_mid xs ys e a))
    (subst (λ (fs : List File). Permᴰ (contents xs ++ (as_file e ∷ contents ys)) (as_file e ∷ fs)) (sym (contents_append xs ys))
    (mathlib.Core.List.Permᴰ.middle (as_file e) (contents xs) (contents ys)))

-- no other live record has e's name
absent_others : (xs ys : List Entry) (e : Entry) → Unique (xs ++ (e ∷ ys)) → alive e ≡ true → Absent (name_of e) (xs ++ ys)
absent_others xs ys e u a =
    each_append (λ f. alive f ≡ true → same (name_of f) (name_of e) ≡ false) xs ys
    (each_map xs (λ f h k. h k a) (pairwise_before Apart xs ys e u))
    (each_map ys (λ f h k. same_sym (name_of f) (name_of e) ∙ h a k) (pairwise_behind Apart xs ys e u))

-- without e's file the ledger has the others
without_mid : (xs ys : List Entry) (e : Entry) (l : Ledger) → Unique (xs ++ (e ∷ ys)) → alive e ≡ true → Matches (xs ++ (e ∷ ys)) l
    → Permᴰ (contents (xs ++ ys)) (without (name_of e) l)
without_mid xs ys e l u a m =
    let n : List ℕ = name_of e in
    let p : Permᴰ (without n (as_file e ∷ contents (xs ++ ys))) (without n l) = perm_keep (not_named n)
    (mathlib.Core.List.Permᴰ.trans (mathlib.Core.List.Permᴰ.symm (contents_front xs ys e a)) m) in
    let q : without n (as_file e ∷ contents (xs ++ ys)) ≡ contents (xs ++ ys) =
    keep_no (not_named n) (as_file e) (contents (xs ++ ys)) (ap not (same_refl n)) ∙ keep_contents n (xs ++ ys) (absent_others xs ys e u a) in
    subst (λ (fs : List File). Permᴰ fs (without n l)) q p

matches_put : (es : List Entry) (e : Entry) (l : Ledger) → alive e ≡ true → Permᴰ (contents es) (without (name_of e) l)
    → Matches (es ++ (e ∷ [])) (with_file (name_of e) (content_of e) l)
matches_put es e l a p =
    subst (λ (fs : List File). Permᴰ fs (with_file (name_of e) (content_of e) l))
    (sym (contents_append es (e ∷ []) ∙ ap (λ (fs : List File). contents es ++ fs) (contents_one e a)))
    (mathlib.Core.List.Permᴰ.trans (mathlib.Core.List.Permᴰ.middle (as_file e) (contents es) []) (mathlib.Core.List.Permᴰ.cons refl (mathlib.Core.List.Permᴰ.trans (mathlib.Core.List.Permᴰ.append-nil (contents es)) p)))

apart_dead : (f : Entry) → alive f ≡ false → (z : Entry) → Apart f z
apart_dead f a z p q = absurd (not_both (alive f) a p)

dead_bytes : (f : Entry) → alive f ≡ false → LiveBytes f
dead_bytes f a k = absurd (not_both (alive f) a k)

module _ (xs ys : List Entry) (e f : Entry) (l : Ledger) (ok : Ok (xs ++ (e ∷ ys)) l) where
  -- a byte changed that no file is told by
  pub ok_same : alive f ≡ alive e → name_of f ≡ name_of e → content_of f ≡ content_of e → Ok (xs ++ (f ∷ ys)) l
  ok_same a n c =
      record {
        unique =
            pairwise_insert Apart xs ys f (pairwise_without Apart xs ys e ok.unique)
            (each_map xs (λ z h p q. ap (same (name_of z)) n ∙ h p (sym a ∙ q)) (pairwise_before Apart xs ys e ok.unique))
            (each_map ys (λ z h p q. ap (λ (m : List ℕ). same m (name_of z)) n ∙ h (sym a ∙ p) q) (pairwise_behind Apart xs ys e ok.unique));
        well_named = each_swap WellNamed xs ys e f ok.well_named (λ k. ap name_ok n ∙ each_at WellNamed xs ys e ok.well_named (sym a ∙ k));
        bytes = each_swap LiveBytes xs ys e f ok.bytes (λ k. subst Bytes (sym c) (each_at LiveBytes xs ys e ok.bytes (sym a ∙ k)));
        matches = subst (λ (fs : List File). Permᴰ fs l) (go (alive e) refl) ok.matches;
      }
    where
      go : (b : Bool) → alive e ≡ b → contents (xs ++ (e ∷ ys)) ≡ contents (xs ++ (f ∷ ys))
      go true k =
          contents_mid xs ys e k ∙ ap (λ (g : File). contents xs ++ (g ∷ contents ys)) (λ i. record {
            name = sym n i;
            content = sym c i;
          }) ∙ sym (contents_mid xs ys f (a ∙ k))
      go false k = contents_dead xs ys e k ∙ sym (contents_dead xs ys f (a ∙ k))

-- a dead record more, anywhere: such is the shadowed record once it is deleted
pub ok_insert : (xs ys : List Entry) (o : Entry) (l : Ledger) → Ok (xs ++ ys) l → alive o ≡ false → Ok (xs ++ (o ∷ ys)) l
ok_insert xs ys o l ok a =
    record {
      unique = pairwise_insert Apart xs ys o ok.unique (each_all (λ z. Apart z o) (dead_apart o a) xs) (each_all (Apart o) (apart_dead o a) ys);
      well_named = each_insert WellNamed xs ys o ok.well_named (dead_named o a);
      bytes = each_insert LiveBytes xs ys o ok.bytes (dead_bytes o a);
      matches = matches_dead xs ys o l a ok.matches;
    }

module _ (xs ys : List Entry) (e : Entry) (l : Ledger) (ok : Ok (xs ++ (e ∷ ys)) l) where
  -- a record less
  ok_less : (k : Ledger) → Matches (xs ++ ys) k → Ok (xs ++ ys) k
  ok_less k m =
      record {
        unique = pairwise_without Apart xs ys e ok.unique;
        well_named = each_without WellNamed xs ys e ok.well_named;
        bytes = each_without LiveBytes xs ys e ok.bytes;
        matches = m;
      }

  -- a dead record less
  ok_bury : alive e ≡ false → Ok (xs ++ ys) l
  ok_bury a = ok_less l (subst (λ (fs : List File). Permᴰ fs l) (contents_dead xs ys e a) ok.matches)

  -- a dead record stays dead
  pub ok_dead : (f : Entry) → alive e ≡ false → alive f ≡ false → Ok (xs ++ (f ∷ ys)) l
  ok_dead f a b = ok_insert xs ys f l (ok_bury a) b

  -- a file is removed
  pub ok_delete : (f : Entry) → alive e ≡ true → alive f ≡ false → Ok (xs ++ (f ∷ ys)) (without (name_of e) l)
  ok_delete f a b = ok_insert xs ys f (without (name_of e) l)
      (ok_less (without (name_of e) l) (without_mid xs ys e l ok.unique a ok.matches)) b

-- a dead record more, at the end
pub ok_add : (es : List Entry) (u : Entry) (l : Ledger) → Ok es l → alive u ≡ false → Ok (es ++ (u ∷ [])) l
ok_add es u l ok a = ok_insert es [] u l (subst (λ (fs : List Entry). Ok fs l) (sym (append-nil es)) ok) a

-- a file more
pub ok_new :
    (es : List Entry) (e : Entry) (l : Ledger) → Ok es l → alive e ≡ true → Absent (name_of e) es → name_ok (name_of e) ≡ true → Bytes (content_of e)
    →
    Ok (es ++ (e ∷ [])) (with_file (name_of e) (content_of e) l)
ok_new es e l ok a n m b =
    record {
      unique = pairwise_end Apart es e ok.unique (each_map es (λ z h p q. h p) n);
      well_named = each_end WellNamed es e ok.well_named (λ k. m);
      bytes = each_end LiveBytes es e ok.bytes (λ k. b);
      matches =
          matches_put es e l a
          (subst (λ (fs : List File). Permᴰ fs (without (name_of e) l)) (keep_contents (name_of e) es n)
          (perm_keep (not_named (name_of e)) ok.matches));
    }

-- the file o is replaced by the record e at the end: o is shadowed, and without it the files are the new ledger's
pub ok_over :
    (xs ys : List Entry) (o e : Entry) (l : Ledger) → Ok (xs ++ (o ∷ ys)) l → named 0xF8 o ≡ true → named 0xFC e ≡ true → name_of e ≡ name_of o
    → Bytes (content_of e) →
    Ok (xs ++ (ys ++ (e ∷ []))) (with_file (name_of e) (content_of e) l) × Shadowed xs (ys ++ (e ∷ [])) o
unfolding has_named
ok_over xs ys o e l ok p q n b = (
  subst (λ (m : List Entry). Ok m (with_file (name_of e) (content_of e) l)) split whole,
  record {
    unique = subst Unique split whole.unique;
    old = p;
    covered =
        subst (λ (m : List Entry). has_named 0xFC m o ≡ true) split (any_last (named_as 0xFC o) (xs ++ ys) e (rw (q, n) (same_refl (name_of o))));
  },
)
  where
    split : (xs ++ ys) ++ (e ∷ []) ≡ xs ++ (ys ++ (e ∷ []))
    split = append_assoc xs ys (e ∷ [])

    others : Absent (name_of o) (xs ++ ys)
    others = absent_others xs ys o ok.unique (f8_alive o p)

    whole : Ok ((xs ++ ys) ++ (e ∷ [])) (with_file (name_of e) (content_of e) l)
    whole =
        record {
          unique =
              pairwise_end Apart (xs ++ ys) e (pairwise_without Apart xs ys o ok.unique)
              (each_map (xs ++ ys) (λ z h k j. ap (same (name_of z)) n ∙ h k) others);
          well_named =
              each_end WellNamed (xs ++ ys) e (each_without WellNamed xs ys o ok.well_named)
              (λ k. ap name_ok n ∙ each_at WellNamed xs ys o ok.well_named (f8_alive o p));
          bytes = each_end LiveBytes (xs ++ ys) e (each_without LiveBytes xs ys o ok.bytes) (λ k. b);
          matches =
              matches_put (xs ++ ys) e l (fc_alive e q)
              (subst (λ (m : List ℕ). Permᴰ (contents (xs ++ ys)) (without m l)) (sym n)
              (without_mid xs ys o l ok.unique (f8_alive o p) ok.matches));
        }

-- the dead head is left behind
pub ok_behead : (x : Entry) (es : List Entry) (l : Ledger) → Ok (x ∷ es) l → alive x ≡ false → Ok es l
ok_behead x es l ok a = ok_bury [] es x l ok a

-- the ledger in another order
pub ok_perm : (es : List Entry) (k l : Ledger) → Permᴰ k l → Ok es k → Ok es l
ok_perm es k l p ok = record { unique = ok.unique; well_named = ok.well_named; bytes = ok.bytes; matches = mathlib.Core.List.Permᴰ.trans ok.matches p }

-- a file put again with the content that it has
pub ok_again : (xs ys : List Entry) (e : Entry) (l : Ledger) → Ok (xs ++ (e ∷ ys)) l → alive e ≡ true
    → Permᴰ (with_file (name_of e) (content_of e) l) l
ok_again xs ys e l ok a =
    mathlib.Core.List.Permᴰ.trans (mathlib.Core.List.Permᴰ.cons refl (mathlib.Core.List.Permᴰ.symm (without_mid xs ys e l ok.unique a ok.matches)))
    (mathlib.Core.List.Permᴰ.trans (mathlib.Core.List.Permᴰ.symm (contents_front xs ys e a)) ok.matches)

-- ---- the file of a name

-- what put replaces: nothing, or one live record of this name
pub data Old (n : List ℕ) (es : List Entry) : Option Entry → Type 0 where
  old_none : Absent n es → Old n es none
  old_some : (xs ys : List Entry) (e : Entry) → es ≡ xs ++ (e ∷ ys) → alive e ≡ true → name_of e ≡ n → Old n es (some e)

old_cons : {o : Option Entry} (n : List ℕ) (x : Entry) (es : List Entry) → (alive x ≡ true → same (name_of x) n ≡ false) → Old n es o
    → Old n (x ∷ es) o
old_cons n x es h (old_none a) = old_none (h, a)
old_cons n x es h (old_some xs ys e q a m) = old_some (x ∷ xs) ys e (ap (λ (l : List Entry). x ∷ l) q) a m

old_first : (n : List ℕ) (es : List Entry) → Old n es (first_such (has_name n) (keep alive es))
old_first n [] = old_none tt
old_first n (e ∷ es) = go (alive e) (same (name_of e) n) refl refl (old_first n es)
  where
    go : (a b : Bool) → alive e ≡ a → same (name_of e) n ≡ b → Old n es (first_such (has_name n) (keep alive es))
        → Old n (e ∷ es) (first_such (has_name n) (keep alive (e ∷ es)))
    go true true x y ih =
        subst (Old n (e ∷ es)) (sym (ap (first_such (has_name n)) (keep_yes alive e es x) ∙ first_yes (has_name n) e (keep alive es) y))
        (old_some [] es e refl x (same_is (name_of e) n y))
    go true false x y ih =
        subst (Old n (e ∷ es)) (sym (ap (first_such (has_name n)) (keep_yes alive e es x) ∙ first_no (has_name n) e (keep alive es) y))
        (old_cons n e es (λ k. y) ih)
    go false b x y ih =
        subst (Old n (e ∷ es)) (sym (ap (first_such (has_name n)) (keep_no alive e es x)))
        (old_cons n e es (λ k. absurd (not_both (alive e) x k)) ih)

-- what the search for a name gives
pub old_file : (n : List ℕ) (es : List Entry) (l : Ledger) → Ok es l → Old n es (file_named n es)
unfolding file_named
old_file n es l ok = subst (λ (fs : List Entry). Old n es (first_such (has_name n) fs)) (sym (files_alive es ok.unique)) (old_first n es)
