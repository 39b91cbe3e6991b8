-- What happens to a row of records when bytes change: outside of it nothing; a status or a low byte of one record changes that record; a
-- stretch may end elsewhere.
use Rattle.std.specs.Prelude.{ℕ, ◌+◌, ◌≤◌, ◌<◌, ◌≡◌, Bool, List, ◌++◌, length, get_or}
use Rattle.std.proofs.Common.{arith, sym, ◌∙◌}
use Rattle.spec.specs.declared.Next.{Next}
use Rattle.spec.specs.Step.{Image}
use Rattle.spec.specs.Basics.{part}
use Rattle.spec.specs.Record.{Entry, name_of, content_of, size, data_at}
use Rattle.spec.specs.Next.{next}
use Rattle.planning.specs.Front.{next_like}
use Rattle.planning.specs.Planned.{with_status, with_low}
use Rattle.planning.specs.Row.{stretch_length, stretch_byte, kind_at, kind_stretch, Stands, Row, row_none, row_more}

-- the bytes from a up to b are the same in both images
abbrev pub Same : Image → Image → ℕ → ℕ → Type 0
Same im im' a b = (i : ℕ) → a ≤ i → i < b → get_or im' i 0 ≡ get_or im i 0

-- ---- one record, read again in another image or in a stretch that ends elsewhere

module _ {im : Image} {lim : ℕ} {e : Entry} (w : Stands im lim e) (im' : Image) (lim' : ℕ) (l : lim' ≤ length im')
    (fits : e.at + size e ≤ lim') where
  -- the header's kind, the length bytes, the name and its end are as they were
  pub reads_like : kind_at im' e.at ≡ kind_at im e.at → Same im im' (e.at + 4) (e.at + (9 + length (name_of e)))
      → next (part e.at lim' im') ≡ Next.Record (length (name_of e)) (length (content_of e))
  reads_like k s =
      next_like (part e.at lim im) (part e.at lim' im') (length (name_of e)) (length (content_of e))
      (omega (arith, stretch_length im' e.at lim' (omega arith) l))
      (λ i g h.
      stretch_byte im' e.at lim' i (omega arith) ∙ s (e.at + i) (omega arith) (omega arith)
      ∙ sym (stretch_byte im e.at lim i (omega (arith, w.fits))))
      (λ z. kind_stretch im' e.at lim' (omega arith) ∙ k ∙ sym (kind_stretch im e.at lim (omega (arith, w.fits)))) w.reads

  -- no byte of it has changed
  pub stands_frame : Same im im' e.at (e.at + size e) → Stands im' lim' e
  stands_frame s =
      record {
        reads =
            reads_like
            (rw (
              s e.at (omega arith) (omega arith),
              s (e.at + 1) (omega arith) (omega arith),
              s (e.at + 2) (omega arith)
                  (omega arith),
              s (e.at + 3) (omega arith) (omega arith),
            ))
            (λ i g h. s i (omega arith) (omega arith));
        fits = fits;
        low = s e.at (omega arith) (omega arith) ∙ w.low;
        status = s (e.at + 2) (omega arith) (omega arith) ∙ w.status;
        name = λ i g. s (e.at + (8 + i)) (omega arith) (omega arith) ∙ w.name i g;
        content = λ i g. s (data_at e + i) (omega arith) (omega arith) ∙ w.content i g;
      }

  -- its status has
  pub stands_status : (b : ℕ) → get_or im' (e.at + 2) 0 ≡ b → kind_at im' e.at ≡ kind_at im e.at
      → Same im im' e.at (e.at + 2) → Same im im' (e.at + 3) (e.at + size e) → Stands im' lim' (with_status b e)
  stands_status b q k s t =
      record {
        reads = reads_like k (λ i g h. t i (omega arith) (omega arith));
        fits = fits;
        low = s e.at (omega arith) (omega arith) ∙ w.low;
        status = q;
        name = λ i g. t (e.at + (8 + i)) (omega arith) (omega arith) ∙ w.name i g;
        content = λ i g. t (data_at e + i) (omega arith) (omega arith) ∙ w.content i g;
      }

  -- its low byte has
  pub stands_low : (b : ℕ) → get_or im' e.at 0 ≡ b → kind_at im' e.at ≡ kind_at im e.at
      → Same im im' (e.at + 1) (e.at + size e) → Stands im' lim' (with_low b e)
  stands_low b q k t =
      record {
        reads = reads_like k (λ i g h. t i (omega arith) (omega arith));
        fits = fits;
        low = q;
        status = t (e.at + 2) (omega arith) (omega arith) ∙ w.status;
        name = λ i g. t (e.at + (8 + i)) (omega arith) (omega arith) ∙ w.name i g;
        content = λ i g. t (data_at e + i) (omega arith) (omega arith) ∙ w.content i g;
      }

-- ---- rows

pub row_frame : {im : Image} {lim : ℕ} {o : Bool} {a : ℕ} {es : List Entry} {p : Bool} {b : ℕ} (im' : Image) (lim' : ℕ) → lim' ≤ length im'
    → b ≤ lim' → Row im lim o a es p b → (a ≤ b) × (Same im im' a b → Row im' lim' o a es p b)
row_frame im' lim' l h row_none = (omega arith, λ s. row_none)
row_frame {im} {lim} {a = a} {p = p} {b = b} im' lim' l h (row_more {es = es} e q w r) =
    let ih = row_frame im' lim' l h r in (
      omega (arith, ih.0),
      λ s.
          row_more e q (stands_frame w im' lim' l (omega (arith, ih.0)) (λ i g m. s i (omega arith) (omega (arith, ih.0))))
          (ih.1 (λ i g m. s i (omega arith) m)),
    )

pub row_kept : {im : Image} {lim : ℕ} {o : Bool} {a : ℕ} {es : List Entry} {p : Bool} {b : ℕ} {im' : Image} {lim' : ℕ} → lim' ≤ length im'
    → b ≤ lim' → Same im im' a b → Row im lim o a es p b → Row im' lim' o a es p b
row_kept {im' = im'} {lim' = lim'} l h s r = (row_frame im' lim' l h r).1 s

pub row_le : {im : Image} {lim : ℕ} {o : Bool} {a : ℕ} {es : List Entry} {p : Bool} {b : ℕ} → Row im lim o a es p b → a ≤ b
row_le row_none = omega arith
row_le (row_more e q w r) = omega (arith, row_le r)

-- two of them
pub row_append : {im : Image} {lim : ℕ} {o : Bool} {a : ℕ} {es fs : List Entry} {p q : Bool} {b c : ℕ} → Row im lim o a es p b
    → Row im lim p b fs q c
    → Row im lim o a (es ++ fs) q c
row_append row_none s = s
row_append (row_more e f w r) s = row_more e f w (row_append r s)
