-- The form of a loop that writes: whatever does the steps that are left does them all.
use Rattle.std.specs.Prelude.{◌≡◌, List, [], ◌++◌}
use Rattle.spec.specs.Step.{Image, Step}
use Rattle.flash.specs.declared.Meter.{Meter}
use Rattle.flash.specs.Did.{Did, did_none, did_both}

-- from t and q on the steps b are left of the steps a from s and m on
abbrev pub Toward : Image → Meter → List Step → Image → Meter → List Step → Type 0
Toward s m a t q b = (u : Image) (r : Meter) → Did t q b u r → Did s m a u r

module _ {s t : Image} {m q : Meter} {a b : List Step} (w : Toward s m a t q b) where
  -- some of them are done
  pub toward_more : {x c : List Step} {u : Image} {r : Meter} → b ≡ x ++ c → Did t q x u r → Toward s m a u r c
  toward_more e d v p f = w v p (rw e (did_both d f))

  -- none of them had to be done
  pub toward_same : {c : List Step} → b ≡ c → Toward s m a t q c
  toward_same e v p f = w v p (rw e f)

  -- none is left
  pub toward_end : b ≡ [] → Did s m a t q
  toward_end e = w t q (rw e (did_none t q))
