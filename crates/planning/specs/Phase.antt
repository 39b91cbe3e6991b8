-- A phase of a repair or a move, where what is read after it is known.
use Rattle.std.specs.Prelude.{ℕ, ◌≤◌, ◌≡◌, refl, List, [], ◌∷◌, ◌++◌, length}
use Rattle.std.proofs.Common.{arith, sym, ap, ap₂, ◌∙◌, append-nil}
use Rattle.spec.specs.Step.{Image, Step, run}
use Rattle.spec.specs.Chain.{Reading, reading_from}
use Rattle.spec.specs.Move.{Work, after}
use Rattle.planning.specs.Reads.{Reads, reads_reading}

abbrev pub work : Image → Reading → List Step → Work
work im r ss = record { image = im; reading = r; steps = ss }

pub after_known : (w : Work) (ss : List Step) (h : ℕ) (t : Reading) → (ss ≡ [] → w.reading ≡ t) → reading_from (run w.image ss) h ≡ t
    → after w ss h ≡ work (run w.image ss) t (w.steps ++ ss)
unfolding after
after_known w [] h t z e = ap₂ (work w.image) (z refl) (sym (append-nil w.steps))
after_known w (s ∷ ss) h t z e = ap (λ (r : Reading). work (run w.image (s ∷ ss)) r (w.steps ++ (s ∷ ss))) e

-- a phase that keeps the head
pub phase : (w : Work) (ss : List Step) (h : ℕ) (t : Reading) → h ≤ length w.image → Reads w.image h w.reading
    → length (run w.image ss) ≡ length w.image
    → Reads (run w.image ss) h t → after w ss h ≡ work (run w.image ss) t (w.steps ++ ss)
phase w ss h t l r len v =
    let e : reading_from (run w.image ss) h ≡ t = reads_reading (omega arith) v in
    after_known w ss h t (λ q. sym (reads_reading l r) ∙ ap (λ (us : List Step). reading_from (run w.image us) h) (sym q) ∙ e) e
