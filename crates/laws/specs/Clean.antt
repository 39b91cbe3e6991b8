-- Step (c) of a move, word by word: where a mark stands, where none does, and where no data is left.
use Rattle.std.specs.Prelude.{ℕ, zero, suc, ◌+◌, ◌≡◌, refl, true, false, drop}
use Rattle.std.proofs.Math.Path.{ap}
use mathlib.Core.List.{List, [], ◌∷◌, ◌++◌}
use Rattle.spec.specs.Step.{Step, program}
use Rattle.spec.specs.Bytes.{is_start, is_high}
use Rattle.spec.specs.Move.{mark_here, mark_steps, clean_steps}

pub clean_nil : (k a : ℕ) → clean_steps k a [] ≡ []
unfolding clean_steps is_high is_start
clean_nil zero a = refl
clean_nil (suc k) a = clean_nil k (a + 8)

module _ (a : ℕ) (s : List ℕ) where
  pub mark_hit : mark_here s ≡ true → mark_steps a s ≡ program (a + 1) 0 ∷ []
  mark_hit e = rw (e, mark_steps)

  pub mark_miss : mark_here s ≡ false → mark_steps a s ≡ []
  mark_miss e = rw (e, mark_steps)

module _ (k a : ℕ) (s : List ℕ) where
  pub clean_hit : mark_here s ≡ true → clean_steps (suc k) a s ≡ program (a + 1) 0 ∷ clean_steps k (a + 8) (drop 8 s)
  unfolding clean_steps
  clean_hit e = ap (λ (ss : List Step). ss ++ clean_steps k (a + 8) (drop 8 s)) (mark_hit a s e)

  pub clean_miss : mark_here s ≡ false → clean_steps (suc k) a s ≡ clean_steps k (a + 8) (drop 8 s)
  unfolding clean_steps
  clean_miss e = ap (λ (ss : List Step). ss ++ clean_steps k (a + 8) (drop 8 s)) (mark_miss a s e)
