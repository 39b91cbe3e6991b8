-- What is read from the first cursor on is the definitions' reading.
use Prim.Native.Nat.{ℕ, zero, suc, ◌+◌, ◌-◌, ◌≤◌, ◌<◌}
use Rattle.std.proofs.Common.{arith, not-suc-le-zero, sym, ap₂, ◌∙◌, drop-drop, get_or-take}
use Rattle.std.specs.Prelude.{◌≡◌, Bool, List, ◌++◌, length, take, drop, ltb, eqb}
use Rattle.std.proofs.Math.Path.{refl, ap}
use Rattle.std.proofs.Math.Bool.{true, false}
use Rattle.std.proofs.Math.Seq.{take-length}
use borrow.Author.Tests.{lt-ltb, eqb-true, eqb-false}
use Rattle.spec.specs.declared.Next.{Next}
use Rattle.spec.specs.declared.Ending.{Ending}
use Rattle.spec.specs.Geometry.{floor, up8}
use Rattle.spec.specs.Bytes.{is_unfinished}
use Rattle.spec.specs.Record.{size_of, rec_of, status_of, Entry}
use Rattle.spec.specs.Next.{next}
use Rattle.spec.specs.Chain.{Chain, add, stop, allowed, chain, Reading, ended, read}
use Rattle.spec.specs.Chain.{read_turned, joined, from_head, from_zero, read_on, reading_from}
use Rattle.chain.specs.declared.Cursor.{Cursor}
use Rattle.chain.specs.declared.Item.{Item}
use Rattle.chain.specs.Cursor.{start, window, look, goes_on, turn, past, torn_end, stops, unfinished_at, settle, advance}
use Rattle.chain.specs.CursorLaws.{advance_on, advance_here}
use Rattle.laws.specs.Parts.{part_window, part_first}
use Rattle.laws.specs.Next.{NotRecord}
use Rattle.laws.specs.Chain.{chain_record, chain_stop}
use Rattle.chain.specs.Fits.{look_inside}
use Rattle.chain.specs.Rest.{Run, entry_of, ahead, done, followed, rest, rest_step}

-- ---- a record reads the same in a part that holds it

pub rec_part : (m n d : ℕ) (s : List ℕ) → size_of n d ≤ m → rec_of (take m s) n d ≡ rec_of s n d
rec_part m n d s h =
    rw (
      get_or-take m s 0 0 (omega arith),
      get_or-take m s 2 0 (omega arith),
      part_first 8 n m s (omega arith),
      drop-drop (up8 (n + 1)) 8 (take m s),
      part_first (8 + up8 (n + 1)) d m s (omega arith),
      drop-drop (up8 (n + 1)) 8 s,
    )

-- ---- one stretch, and what follows where it ends

abbrev joint : List Entry → Run → Run
joint es r = record { entries = es ++ r.entries; ending = r.ending }

module _ (image : List ℕ) where
  -- what is read where the chain of a stretch is ch
  unfoldable finish : ℕ → Bool → Chain → Run
  finish room turned ch =
      elim (goes_on room ch.last) [
        | true ↦ joint ch.entries (rest image (turn room ch.pending))
        | false ↦ record { entries = ch.entries; ending = stops room turned ch.tail ch.last }
      ]

  finish_add : (room : ℕ) (turned : Bool) (e : Entry) (ch : Chain) (t : Bool) → goes_on room ch.last ≡ t
      → finish room turned (add e ch) ≡ ahead e (finish room turned ch)
  unfolding finish
  finish_add room turned e ch true h = rw (finish, h)
  finish_add room turned e ch false h = rw (finish, h)

  never : (x : Next) → goes_on 0 x ≡ false
  never (Next.Record n d) = refl
  never Next.Wrap = refl
  never Next.TornWrap = refl
  never Next.Clear = refl
  never Next.Over = refl
  never Next.Bad = refl

  abbrev Chained : ℕ → Cursor → Type 0
  Chained k c = rest image c ≡ finish c.room c.turned (chain k c.pending c.at (window image c))

  rest_turn : (c : Cursor) → goes_on c.room (look image c) ≡ true → rest image c ≡ rest image (turn c.room c.pending)
  rest_turn c h =
      let u : Cursor = turn c.room c.pending in
      rest_step image c ∙ ap (λ (r : Item). followed image r (rest image))
      (advance_on image c h ∙ sym (advance_here image u (never (look image u))))
      ∙ sym (rest_step image u)

  torn_done : (c : Cursor) (t : Bool) → ltb 0 c.room ≡ t
      → followed image (torn_end c.room c.turned c.at) (rest image) ≡ done (torn_end c.room c.turned c.at)
  unfolding torn_end
  torn_done c true e = rw (torn_end, e)
  torn_done c false e = rw (torn_end, e)

  settle_done : (c : Cursor) (x : Next) → NotRecord x
      → followed image (settle image c x) (rest image) ≡ done (stops c.room c.turned c.at x)
  settle_done c (Next.Record n d) z = absurd z
  settle_done c Next.Wrap z = refl
  settle_done c Next.TornWrap z = torn_done c _ refl
  settle_done c Next.Clear z = refl
  settle_done c Next.Over z = refl
  settle_done c Next.Bad z = refl

  -- the chain of c stops at x
  stopped : (c : Cursor) (x : Next) (k : ℕ) → look image c ≡ x → NotRecord x → Chained (suc k) c
  unfolding finish look
  stopped c x k e z =
      go (goes_on c.room x) refl ∙ ap (finish c.room c.turned)
      (sym (chain_stop k c.pending c.at (window image c) x z e)) where
        go : (t : Bool) → goes_on c.room x ≡ t → rest image c ≡ finish c.room c.turned (stop c.pending c.at x)
        go true q = rw (finish, q) (rest_turn c (ap (goes_on c.room) e ∙ q))
        go false q =
            rw (finish, q)
            (rest_step image c ∙ ap (λ (r : Item). followed image r (rest image))
            (advance_here image c (ap (goes_on c.room) e ∙ q) ∙ ap (settle image c) e) ∙ settle_done c x z)

  -- a record, and the chain behind it
  linked : (k : ℕ) (c : Cursor) (n d : ℕ) → c.at ≤ c.end → look image c ≡ Next.Record n d
      → allowed c.pending (next (window image c)) ≡ Next.Record n d
      → Chained k (past c (size_of n d) (unfinished_at image c.at)) → Chained (suc k) c
  linked k c n d o e f ih =
      let z : ℕ = size_of n d in
      let w : List ℕ = window image c in
      let u : Cursor = past c z (unfinished_at image c.at) in
      let l : z ≤ c.end - c.at = look_inside image c n d e in
      let p : w ≡ take (c.end - c.at) (drop c.at image) = sym (part_window c.at c.end image o) in
      let st : status_of w ≡ status_of (drop c.at image) = ap status_of p
      ∙ get_or-take (c.end - c.at) (drop c.at image) 2 0 (omega arith) in
      let r : rec_of w n d ≡ rec_of (drop c.at image) n d = ap (λ (l : List ℕ). rec_of l n d) p
      ∙ rec_part (c.end - c.at) n d (drop c.at image) l in
      let q : window image u ≡ drop z w = sym (drop-drop z c.at (take c.end image)) in
      let a : advance image c ≡ Item.Record (record { at = c.at; n = n; d = d }) u = advance_here image c (ap (goes_on c.room) e)
      ∙ ap (settle image c) e in
      let tail : Chain = chain k (is_unfinished (status_of w)) (c.at + z) (drop z w) in
      rest_step image c ∙ ap (λ (x : Item). followed image x (rest image)) a
      ∙ ap (ahead (entry_of image (record { at = c.at; n = n; d = d })))
      (ih ∙ ap₂ (λ (h : Bool) (l : List ℕ). finish c.room c.turned (chain k h (c.at + z) l)) (ap is_unfinished (sym st)) q)
      ∙ sym (rw (chain_record k c.pending c.at w n d f)
      (finish_add c.room c.turned (record { at = c.at; it = rec_of w n d }) tail _ refl
      ∙ ap (λ (it : _). ahead (record { at = c.at; it = it }) (finish c.room c.turned tail)) r))

  chained : (k : ℕ) (c : Cursor) → c.at ≤ c.end → c.end - c.at < k → Chained k c
  unfolding look
  chained zero c o h = absurd (not-suc-le-zero h)
  chained (suc k) c o h = go (look image c) refl (λ n d b f. chained k (past c (size_of n d) b) (omega arith) (omega arith)) where
    go : (x : Next) → look image c ≡ x → ((n d : ℕ) (b : Bool) → size_of n d ≤ c.end - c.at → Chained k (past c (size_of n d) b))
        → Chained (suc k) c
    go (Next.Record n d) e ih =
        linked k c n d o e e (ih n d (unfinished_at image c.at) (look_inside image c n d e))
    go Next.Wrap e ih = stopped c Next.Wrap k e tt
    go Next.TornWrap e ih = stopped c Next.TornWrap k e tt
    go Next.Clear e ih = stopped c Next.Clear k e tt
    go Next.Over e ih = stopped c Next.Over k e tt
    go Next.Bad e ih = stopped c Next.Bad k e tt

  -- ---- the whole chain

  -- a reading, from what the cursor found
  abbrev pub shown : ℕ → ℕ → List Entry → Item → Reading
  shown N h es (Item.Record e c) = read N h 0 false es Ending.Broken
  shown N h es (Item.End t w) = read N h t w es Ending.Tail
  shown N h es (Item.TornWrap t) = read N h 0 true es (Ending.TornWrap t)
  shown N h es (Item.Broken t w) = read N h t w es Ending.Broken

  abbrev pub read_of : ℕ → ℕ → Run → Reading
  read_of N h r = shown N h r.entries r.ending

  -- with no room the chain ends where its stretch does
  shown_last : (N h t : ℕ) (w : Bool) (es : List Entry) (x : Next) → shown N h es (stops 0 w t x) ≡ read N h t w es (ended x)
  unfolding torn_end
  shown_last N h t w es (Next.Record n l) = refl
  shown_last N h t w es Next.Wrap = refl
  shown_last N h t w es Next.TornWrap = refl
  shown_last N h t w es Next.Clear = refl
  shown_last N h t w es Next.Over = refl
  shown_last N h t w es Next.Bad = refl

  finish_last : (w : Bool) (ch : Chain) → finish 0 w ch ≡ record { entries = ch.entries; ending = stops 0 w ch.tail ch.last }
  unfolding finish
  finish_last w ch = rw (finish, never ch.last)

  module _ (h : ℕ) (l : h ≤ length image) where
    from_start : rest image (start h (floor h) (length image)) ≡ finish (floor h) false (from_head image h)
    from_start =
        chained (suc (length image)) (start h (floor h) (length image)) l (omega arith)
        ∙ ap (λ (s : List ℕ). finish (floor h) false (chain (suc (length image)) false h (drop h s))) (take-length image)

    -- what follows the turn
    after_turn : (pending : Bool) → rest image (turn (floor h) pending) ≡ record {
      entries = (from_zero image h pending).entries;
      ending = stops 0 true (from_zero image h pending).tail (from_zero image h pending).last;
    }
    after_turn pending = chained (suc (length image)) (turn (floor h) pending) (omega arith) (omega arith)
        ∙ finish_last true (from_zero image h pending)

    turned_is : (c : Chain) → read_of (length image) h (joint c.entries (rest image (turn (floor h) c.pending))) ≡ read_turned
        (length image) h c
        (from_zero image h c.pending)
    turned_is c =
        let d : Chain = from_zero image h c.pending in
        ap (λ (r : Run). read_of (length image) h (joint c.entries r)) (after_turn c.pending)
        ∙ shown_last (length image) h d.tail true (c.entries ++ d.entries) d.last

    joined_is : (c : Chain) (x : Next) → c.last ≡ x → 0 < floor h
        → read_of (length image) h (finish (floor h) false c) ≡ joined (length image) h c (from_zero image h c.pending)
    unfolding joined finish torn_end
    joined_is c (Next.Record n d) e p = rw (joined, finish, e) (rw e)
    joined_is c Next.Wrap e p = rw (joined, finish, e, lt-ltb 0 (floor h) p) (turned_is c)
    joined_is c Next.TornWrap e p = rw (joined, finish, e) (rw (e, torn_end, lt-ltb 0 (floor h) p))
    joined_is c Next.Clear e p = rw (joined, finish, e) (rw e)
    joined_is c Next.Over e p = rw (joined, finish, e, lt-ltb 0 (floor h) p) (turned_is c)
    joined_is c Next.Bad e p = rw (joined, finish, e) (rw e)

    by_room : (t : Bool) → eqb (floor h) 0 ≡ t → read_of (length image) h
        (rest image (start h (floor h) (length image))) ≡ reading_from image h
    unfolding read_on
    by_room true e =
        let c : Chain = from_head image h in
        ap (read_of (length image) h) (from_start ∙ ap (λ (r : ℕ). finish r false c) (eqb-true (floor h) 0 e) ∙ finish_last false c)
        ∙ shown_last (length image) h c.tail false c.entries c.last
        ∙ rw (read_on, e)
    by_room false e =
        let z : floor h ≡ 0 → ⊥ = eqb-false (floor h) 0 e in
        ap (read_of (length image) h) from_start ∙ joined_is (from_head image h) _ refl (omega arith) ∙ rw (read_on, e)

    -- the reading from h is what the cursor finds from h on
    pub reading_is : read_of (length image) h (rest image (start h (floor h) (length image))) ≡ reading_from image h
    reading_is = by_room _ refl
