-- One F8 record o among the records R, whose name has an FC in R: such is the old file between a put's commit and its last step.
-- The live files are those of R, and repair 4 of mount has o to delete and no other.
use Rattle.std.specs.Prelude.{◌≡◌, refl, Bool, true, false, ◌&&◌, ◌||◌, List, [], ◌∷◌, ◌++◌}
use Rattle.std.proofs.Common.{sym, ap₂, ◌∙◌}
use Rattle.std.proofs.Math.Path.{ap}
use Rattle.std.proofs.Math.Bool.{not, and-false}
use Rattle.spec.specs.Basics.{keep}
use Rattle.spec.specs.Record.{Entry}
use Rattle.spec.specs.Files.{named, named_as, has_named, live, superseded}
use Rattle.history.specs.Lists.{any_insert, keep_append, keep_same, each_all, keep_none}
use Rattle.laws.specs.Lists.{keep_yes}
use Rattle.history.specs.Store.{Unique, none_superseded, fc_not_f8}

empty_left : (a b : List Entry) → a ++ b ≡ [] → a ≡ []
empty_left [] b h = refl
empty_left (x ∷ a) b h = cc

empty_right : (a b : List Entry) → a ++ b ≡ [] → b ≡ []
empty_right [] b h = h
empty_right (x ∷ a) b h = cc

-- the F8 record o between xs and ys, with an FC of its name among them
pub record Shadowed (xs ys : List Entry) (o : Entry) : Type 0 where
  pub unique : Unique (xs ++ ys)
  pub old : named 0xF8 o ≡ true
  pub covered : has_named 0xFC (xs ++ ys) o ≡ true

module _ (xs ys : List Entry) (o : Entry) (s : Shadowed xs ys o) where
  abbrev es : List Entry
  es = xs ++ (o ∷ ys)

  abbrev R : List Entry
  R = xs ++ ys

  -- o is no FC, so nobody sees it
  has_same : (e : Entry) → has_named 0xFC es e ≡ has_named 0xFC R e
  unfolding has_named
  has_same e = any_insert (named_as 0xFC e) xs ys o (rw (fc_not_f8 o s.old))

  -- the others are live as without o
  pub live_same : (e : Entry) → live es e ≡ live R e
  unfolding live
  live_same e = ap (λ (b : Bool). named 0xFC e || (named 0xF8 e && not b)) (has_same e)

  -- o is not
  pub o_dead : live es o ≡ false
  unfolding live
  o_dead = rw (live, has_same o, s.covered, fc_not_f8 o s.old) (and-false (named 0xF8 o))

  super_same : (e : Entry) → superseded es e ≡ superseded R e
  unfolding superseded
  super_same e = ap (λ (b : Bool). named 0xF8 e && b) (has_same e)

  o_super : superseded es o ≡ true
  unfolding superseded
  o_super = rw (superseded, s.old, has_same o, s.covered)

  -- repair 4 has one record to delete
  pub shadow_one : keep (superseded es) es ≡ o ∷ []
  shadow_one =
      let p : Entry → Bool = superseded es in
      let n : keep p xs ++ keep p ys ≡ [] =
      sym (keep_append p xs ys) ∙ keep_same (superseded es) (superseded R) R (each_all (λ e. superseded es e ≡ superseded R e) super_same R)
      ∙ keep_none (superseded R) R (none_superseded R s.unique) in
      keep_append p xs (o ∷ ys)
      ∙ ap₂ (λ (a b : List Entry). a ++ b) (empty_left (keep p xs) (keep p ys) n)
      (keep_yes p o ys o_super ∙ ap (λ (l : List Entry). o ∷ l) (empty_right (keep p xs) (keep p ys) n))
