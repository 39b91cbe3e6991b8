-- An image is settled if mount has no step to do on it. Each repair alone, where it has none; then a rested image: it is read, and it is settled.
use Rattle.std.specs.Prelude.{ℕ, ◌≡◌, refl, Bool, false, List, [], ◌∷◌, ◌++◌, length}
use Rattle.std.proofs.Common.{ap, ◌∙◌, sym, subst, append-nil}
use Rattle.spec.specs.declared.Ending.{Ending}
use Rattle.spec.specs.Step.{Image, Step, run}
use Rattle.spec.specs.Basics.{give, Each}
use Rattle.spec.specs.Record.{Entry}
use Rattle.spec.specs.Chain.{Reading, read}
use Rattle.spec.specs.Reading.{head_clean, reading}
use Rattle.spec.specs.Move.{Work, begin, after, reread}
use Rattle.spec.specs.Mount.{repair_1, repair_2, repair_3, repair_4, mended, settled, repair_2_on}
use Rattle.spec.specs.Door.{if_settled, settled_reading}
use Rattle.spec.specs.History.{Ledger}
use Rattle.spec.specs.Files.{superseded}
use Rattle.laws.specs.Settled.{last_open, repair_1_idle, repair_2_idle, repair_3_idle, repair_4_idle}
use Rattle.history.specs.Blanks.{blanks}
use Rattle.history.specs.Store.{Finished, Unmarked, Unique, none_superseded}
use Rattle.history.specs.Seg.{seg_none}
use Rattle.history.specs.Legal.{Ruled}
use Rattle.history.specs.Whole.{is_clean_0}
use Rattle.history.specs.Laid.{Laid, Tail}
use Rattle.history.specs.LaidEdit.{laid_fine}
use Rattle.history.specs.Kinds.{Starts, Rested}
use Rattle.history.specs.Rules.{fine_finished, starts_ruled}
use Rattle.history.specs.LaidRead.{start_reads}
use Rattle.laws.specs.Lists.{any_none}

-- ---- each repair alone

-- repair 2: no other record is marked
pub two_none : (w : Work) (x : Entry) (es : List Entry) → Each Unmarked es → repair_2 w (x ∷ es) ≡ w
two_none w x [] h = repair_2_idle w (x ∷ []) refl
two_none w x (y ∷ es) h = repair_2_idle w (x ∷ y ∷ es) h.0

-- no record is unfinished
pub last_finished : (es : List Entry) → Each Finished es → last_open es ≡ false
last_finished [] h = refl
last_finished (e ∷ []) h = h.0
last_finished (e ∷ f ∷ es) h = last_finished (f ∷ es) h.1

-- repair 3: all records are finished
pub three_none : (w : Work) → Each Finished w.reading.entries → w.reading.ending ≡ Ending.Tail → repair_3 w ≡ w
three_none w h t = repair_3_idle w (rw (last_finished w.reading.entries h, t))

-- steps that are some: they are run, and the image is read again
pub after_some : (w : Work) (ss : List Step) (h : ℕ) → (ss ≡ [] → ⊥) → after w ss h ≡ reread w ss (run w.image ss) h
unfolding after
after_some w [] h n = absurd (n refl)
after_some w (s ∷ ss) h n = refl

-- the head is START, so it is not CLEAN
pub starts_clean : (es : List Entry) → Starts es → head_clean es ≡ false
starts_clean [] s = absurd s
starts_clean (x ∷ es) s = is_clean_0 x.it.low s.0

-- repair 2 has nothing to do
pub two_plain : (w : Work) (es : List Entry) → Starts es → repair_2 w es ≡ w
two_plain w [] s = absurd s
two_plain w (x ∷ es) s = two_none w x es s.1

-- ---- the whole reading, with nothing at S

-- the first record START, whatever the second
pub start_read :
    {im : Image} {h S T : ℕ} (B F : ℕ) {t u : Bool} {x : Entry} {es : List Entry} → Laid im h S t (x ∷ es) seg_none (blanks B) (blanks F)
    → Tail h S t seg_none (blanks B) (blanks F) T u →
    x.it.low ≡ 0 →
    Ruled (x ∷ es) → reading im ≡ give (read (length im) h T u (x ∷ es) Ending.Tail)
start_read {im} {h} {T = T} B F {u = u} {x} {es} d e a r =
    let n : (x ∷ es) ++ [] ≡ x ∷ es = append-nil (x ∷ es) in
    start_reads B F d e a (subst Ruled (sym n) r) ∙ ap (λ (fs : List Entry). give (read (length im) h T u fs Ending.Tail)) n

-- of any records that begin with START
pub starts_read :
    {im : Image} {h S T : ℕ} (B F : ℕ) {t u : Bool} (es : List Entry) → Laid im h S t es seg_none (blanks B) (blanks F)
    → Tail h S t seg_none (blanks B) (blanks F) T u → Starts es → Ruled es →
    reading im ≡ give (read (length im) h T u es Ending.Tail)
starts_read B F [] d e s r = absurd s
starts_read B F (x ∷ es) d e s r = start_read B F d e s.0 r

-- what is read of a rested image
pub rested_reads : {l : Ledger} {im : Image} {r : Reading} → Rested l im r → reading im ≡ give r
rested_reads {l} q =
    starts_read q.B q.F q.es q.laid q.tail q.starts (starts_ruled q.es l q.ok q.starts) ∙ ap give (sym q.is)

-- ---- no repair has a step to do on a rested image

module _ {l : Ledger} (w : Work) (q : Rested l w.image w.reading) where
  entries_is : w.reading.entries ≡ q.es
  entries_is = ap (λ (r : Reading). r.entries) q.is

  -- repair 1 has nothing to do
  idle_1 : repair_1 w ≡ w
  idle_1 = repair_1_idle w (ap head_clean entries_is ∙ starts_clean q.es q.starts)

  -- nor has repair 2
  pub idle_2 : repair_2_on w ≡ w
  idle_2 = ap (repair_2 w) entries_is ∙ two_plain w q.es q.starts

  -- nor 3
  pub idle_3 : repair_3 w ≡ w
  idle_3 =
      three_none w (subst (Each Finished) (sym entries_is) (fine_finished q.es (laid_fine q.laid))) (ap (λ (r : Reading). r.ending) q.is)

  -- nor 4
  pub idle_4 : repair_4 w ≡ w
  idle_4 =
      let es : List Entry = w.reading.entries in
      repair_4_idle w (any_none (superseded es) es (none_superseded es (subst Unique (sym entries_is) q.ok.unique)))

-- so mount leaves it as it is
pub rested_idle : {l : Ledger} {im : Image} {r : Reading} → Rested l im r → mended im r ≡ begin im r
unfolding mended
rested_idle {l} {im} {r} q =
    let w : Work = begin im r in
    ap (λ (v : Work). repair_4 (repair_3 (repair_2_on v))) (idle_1 w q) ∙ ap (λ (v : Work). repair_4 (repair_3 v)) (idle_2 w q)
    ∙ ap repair_4 (idle_3 w q) ∙ idle_4 w q

-- and it is settled, as document 01 has it: "mount accepts it and has no step to do"
pub rested_settled : {l : Ledger} {im : Image} {r : Reading} → Rested l im r → settled_reading im ≡ give r
unfolding settled_reading if_settled settled
rested_settled q = rw (settled_reading, rested_reads q, if_settled, settled, rested_idle q)
