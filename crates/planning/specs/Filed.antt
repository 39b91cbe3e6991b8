-- On a settled image a record is live by its status and name alone, so that sizes of live records and of others are counted one by one.
use Rattle.std.specs.Prelude.{ℕ, zero, suc, ◌+◌, ◌≡◌, refl, Bool, true, false, ◌||◌, not, List, [], ◌∷◌, ◌++◌, take}
use Rattle.std.proofs.Common.{arith, ap, ◌∙◌}
use Rattle.spec.specs.Step.{Image}
use Rattle.spec.specs.Basics.{give, keep, Each}
use Rattle.spec.specs.Record.{Entry, size}
use Rattle.spec.specs.Chain.{Reading}
use Rattle.spec.specs.Files.{named, live}
use Rattle.spec.specs.Door.{settled_reading}
use Rattle.spec.specs.Space.{sizes, live_bytes, others}
use Rattle.laws.specs.Lists.{keep_yes, keep_no}
use Rattle.planning.specs.Known.{settled_known}
use Rattle.planning.specs.Lone.{Unrivalled, Apart, lone_first}

-- ---- live by status and name

-- a file's status and a name
abbrev pub filed : Entry → Bool
filed e = named 0xFC e || named 0xF8 e

abbrev pub unfiled : Entry → Bool
unfiled e = not (filed e)

-- no record is superseded, and no later F8 record has the name of an earlier file
pub record Plain (es : List Entry) : Type 0 where
  pub rest : Each (Unrivalled es) es
  pub apart : Apart es

-- of a record with no rival
pub live_filed : (es : List Entry) (e : Entry) → Unrivalled es e → live es e ≡ filed e
unfolding live
live_filed es e u = go _ refl where
  go : (t : Bool) → named 0xF8 e ≡ t → live es e ≡ filed e
  go true q = rw (live, q, u q)
  go false q = rw (live, q)

-- the bytes that pass, where each record passes both tests or neither
pub sizes_same : (p q : Entry → Bool) (es : List Entry) → Each (λ e. p e ≡ q e) es → sizes (keep p es) ≡ sizes (keep q es)
sizes_same p q [] w = refl
sizes_same p q (e ∷ es) w = go (q e) refl (sizes_same p q es w.1) where
  go : (t : Bool) → q e ≡ t → sizes (keep p es) ≡ sizes (keep q es) → sizes (keep p (e ∷ es)) ≡ sizes (keep q (e ∷ es))
  go true h ih = omega (arith, ap sizes (keep_yes p e es (w.0 ∙ h)), ap sizes (keep_yes q e es h))
  go false h ih = omega (arith, ap sizes (keep_no p e es (w.0 ∙ h)), ap sizes (keep_no q e es h))

pub each_live : (all es : List Entry) → Each (Unrivalled all) es → Each (λ e. live all e ≡ filed e) es
each_live all [] w = tt
each_live all (e ∷ es) w = (live_filed all e w.0, each_live all es w.1)

pub each_not : (all es : List Entry) → Each (λ e. live all e ≡ filed e) es → Each (λ e. not (live all e) ≡ unfiled e) es
each_not all [] w = tt
each_not all (e ∷ es) w = (ap not w.0, each_not all es w.1)

pub each_take : (P : Entry → Type 0) (k : ℕ) (es : List Entry) → Each P es → Each P (take k es)
each_take P zero es w = tt
each_take P (suc k) [] w = tt
each_take P (suc k) (e ∷ es) w = (w.0, each_take P k es w.1)

module _ (es : List Entry) (w : Each (Unrivalled es) es) where
  pub plain_live : live_bytes es ≡ sizes (keep filed es)
  plain_live = sizes_same (live es) filed es (each_live es es w)

  pub plain_dead : sizes (others es) ≡ sizes (keep unfiled es)
  plain_dead = sizes_same (λ e. not (live es e)) unfiled es (each_not es es (each_live es es w))

-- ---- lists

-- one record more at the end
module _ (p : Entry → Bool) where
  pub kept_yes : (e : Entry) (es : List Entry) → p e ≡ true → sizes (keep p (e ∷ es)) ≡ size e + sizes (keep p es)
  kept_yes e es h = ap sizes (keep_yes p e es h)

  pub kept_no : (e : Entry) (es : List Entry) → p e ≡ false → sizes (keep p (e ∷ es)) ≡ sizes (keep p es)
  kept_no e es h = ap sizes (keep_no p e es h)

  pub kept_both : (es fs : List Entry) → sizes (keep p (es ++ fs)) ≡ sizes (keep p es) + sizes (keep p fs)
  kept_both [] fs = omega arith
  kept_both (e ∷ es) fs = go (p e) refl (kept_both es fs) where
    go : (t : Bool) → p e ≡ t → sizes (keep p (es ++ fs)) ≡ sizes (keep p es) + sizes (keep p fs)
        → sizes (keep p (e ∷ (es ++ fs))) ≡ sizes (keep p (e ∷ es)) + sizes (keep p fs)
    go true h ih = omega (arith, kept_yes e (es ++ fs) h, kept_yes e es h)
    go false h ih = omega (arith, kept_no e (es ++ fs) h, kept_no e es h)

  -- a last record that does not pass, within the first k or not
  pub kept_last : (k : ℕ) (es : List Entry) (c : Entry) → p c ≡ false → sizes (keep p (take k (es ++ (c ∷ []))))
      ≡ sizes (keep p (take k es))
  kept_last zero es c h = refl
  kept_last (suc k) [] c h = kept_no c (take k []) h ∙ nil k where
    nil : (j : ℕ) → sizes (keep p (take j [])) ≡ 0
    nil zero = refl
    nil (suc j) = refl
  kept_last (suc k) (e ∷ es) c h = go (p e) refl (kept_last k es c h) where
    go : (t : Bool) → p e ≡ t → sizes (keep p (take k (es ++ (c ∷ [])))) ≡ sizes (keep p (take k es))
        → sizes (keep p (e ∷ take k (es ++ (c ∷ [])))) ≡ sizes (keep p (e ∷ take k es))
    go true q ih = omega (arith, kept_yes e (take k (es ++ (c ∷ []))) q, kept_yes e (take k es) q)
    go false q ih = omega (arith, kept_no e (take k (es ++ (c ∷ []))) q, kept_no e (take k es) q)

-- ---- on settled images

pub settled_plain : (im : Image) (r : Reading) → settled_reading im ≡ give r → Plain r.entries
settled_plain im r e =
    let c = settled_known im r e in
    let l = lone_first r.entries c.1.single c.0.once in
    record { rest = l.rest; apart = l.apart }
