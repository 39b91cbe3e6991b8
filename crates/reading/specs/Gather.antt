-- What the pass of a judgement carries along of the records before a cursor: the tally, what the names tell, the first file of a hash.
use Rattle.std.specs.Prelude.{ℕ, ◌+◌, ◌≤◌, ◌≡◌, Bool, true, false, ◌&&◌, List, length, eqb}
use Rattle.std.proofs.Common.{arith, sym, ap, subst, ◌∙◌}
use Rattle.chain.specs.declared.Cursor.{Cursor}
use Rattle.chain.specs.declared.Spot.{Spot}
use Rattle.chain.specs.declared.Item.{Item}
use Rattle.chain.specs.declared.Tally.{Tally}
use Rattle.chain.specs.declared.Repeats.{Repeats}
use Rattle.reading.specs.declared.Gathered.{Gathered}
use Rattle.reading.specs.declared.Sight.{Sight}
use Rattle.chain.specs.Cursor.{CursorSound, advance}
use Rattle.chain.specs.Rest.{rest, entry_of}
use Rattle.chain.specs.Fold.{Passes, NotRecord}
use Rattle.chain.specs.Tally.{none_yet, name_fine, noted, noted_plain, noted_plain_is, noted_records}
use Rattle.chain.specs.Tally.{Passing, passing_start, passing_step}
use Rattle.chain.specs.TallyLaws.{and_true}
use Rattle.spec.specs.Record.{Entry, name_of, name_ok}
use Rattle.spec.specs.Reading.{marked}
use Rattle.chain.specs.FileLaws.{is_file}
use Rattle.chain.specs.Repeats.{repeats_of}
use Rattle.chain.specs.Prefix.{Gone, gone_none, gone_all, gone_more, front, front_and, front_more}
use Rattle.chain.specs.Held.{Carried, carried_none, carried_same}
use Rattle.reading.specs.Sought.{hash_of, has_hash, not_seen, found_of, seen_or, Sought, sought_more, sought_none}

abbrev pub nothing_yet : Cursor → Gathered
nothing_yet c =
    record { cursor = c; tally = none_yet; repeats = record { doubled = false; superseded = false }; sight = not_seen }

-- of the records before g's cursor; wanted is the hash
pub record Gathering (image : List ℕ) (start : Cursor) (wanted : ℕ) (g : Gathered) (table : List ℕ) : Type 0 where
  pub passing : Passing image start g.cursor g.tally
  pub gone : Gone image start g.cursor g.tally.records
  pub carried : Carried (front image start g.tally.records) g.repeats table
  pub sought : Sought image wanted (front image start g.tally.records) (found_of g.sight)

-- the same, and e stands at g's cursor, before next
pub record Noting (image : List ℕ) (start : Cursor) (wanted : ℕ) (e : Spot) (next : Cursor) (g : Gathered) (table : List ℕ) : Type 0 where
  pub state : Gathering image start wanted g table
  pub passes : Passes image g.cursor e next

-- e is no mark and stands behind the second record, and it is a file with a good name
pub record PlainFile (image : List ℕ) (e : Spot) (t : Tally) : Type 0 where
  pub two : 2 ≤ t.records
  pub unmarked : marked (entry_of image e) ≡ false
  pub file : is_file (entry_of image e) ≡ true
  pub fine : name_ok (name_of (entry_of image e)) ≡ true

module _ {image : List ℕ} {start : Cursor} {wanted : ℕ} where
  pub gathering_start : {table : List ℕ} → CursorSound image start → 16 ≤ length image → 512 ≤ length table
      → Gathering image start wanted (nothing_yet start) table
  gathering_start {table} s l h =
      record { passing = passing_start s l; gone = gone_none s; carried = carried_none table h; sought = sought_none image wanted }

  -- no record is left
  module _ {g : Gathered} {table : List ℕ} (r : Item) (w : Gathering image start wanted g table) (e : r ≡ advance image g.cursor)
      (z : NotRecord r) where
    pub gathered_repeats : g.repeats ≡ repeats_of (rest image start).entries
    gathered_repeats = w.carried.right ∙ ap repeats_of (gone_all w.gone r e z)

    pub gathered_found : Sought image wanted (rest image start).entries (found_of g.sight)
    gathered_found = subst (λ (es : List Entry). Sought image wanted es (found_of g.sight)) (gone_all w.gone r e z) w.sought

  -- one record more
  module _ {e : Spot} {c : Cursor} {g : Gathered} {table : List ℕ} (w : Noting image start wanted e c g table) where
    abbrev t : Tally
    t = g.tally

    abbrev x : Entry
    x = entry_of image e

    pub gathering_next : {u : Tally} {m : Repeats} {f : Sight} {after : List ℕ} → u ≡ noted t x
        → Carried (front_and image start t.records e) m after → f ≡ seen_or (is_file x && has_hash wanted x) g.sight e
        → Gathering image start wanted (record { cursor = c; tally = u; repeats = m; sight = f }) after
    gathering_next {u} {m} {f} {after} q h o =
        let k : t.records + 1 ≡ u.records = sym (ap (λ (y : Tally). y.records) q ∙ noted_records t x) in
        let l : front image start (t.records + 1) ≡ front_and image start t.records e = front_more w.state.gone w.passes in
        record {
          passing = passing_step w.state.passing w.passes q;
          gone = subst (λ (i : ℕ). Gone image start c i) k (gone_more w.state.gone w.passes);
          carried = subst (λ (i : ℕ). Carried (front image start i) m after) k (rw l h);
          sought =
              subst (λ (i : ℕ). Sought image wanted (front image start i) (found_of f)) k
              (rw (l, o) (sought_more e w.passes.whole g.sight w.state.sought));
        }

    -- a good name leaves it at what the names before tell
    fine_file : is_file x ≡ true → name_ok (name_of x) ≡ true → t.fine ≡ (t.fine && name_fine x)
    unfolding name_fine
    fine_file y o = rw (name_fine, y, o) (sym (and_true t.fine))

    pub fine_other : is_file x ≡ false → t.fine ≡ (t.fine && name_fine x)
    unfolding name_fine
    fine_other y = rw (name_fine, y) (sym (and_true t.fine))

    -- a file: its hash tells whether it is the one that is wanted
    pub gathering_named : {u : Tally} {m : Repeats} {f : Sight} {after : List ℕ} (h : ℕ) → is_file x ≡ true → h ≡ hash_of x → u ≡ noted t x
        → Carried (front_and image start t.records e) m after → f ≡ seen_or (eqb h wanted) g.sight e
        → Gathering image start wanted (record { cursor = c; tally = u; repeats = m; sight = f }) after
    gathering_named h y k q a o =
        let fits : (is_file x && has_hash wanted x) ≡ has_hash wanted x = rw y in
        let same : eqb h wanted ≡ has_hash wanted x = ap (λ (j : ℕ). eqb j wanted) k in
        gathering_next q a (o ∙ ap (λ (b : Bool). seen_or b g.sight e) (same ∙ sym fits))

    -- any other record
    pub gathering_other : {u : Tally} → is_file x ≡ false → u ≡ noted t x
        → Gathering image start wanted (record { cursor = c; tally = u; repeats = g.repeats; sight = g.sight }) table
    gathering_other y q = gathering_next q (carried_same x w.state.carried y) (rw y)

    -- a plain one behind the second, a file or not
    module _ {u : Tally} (two : 2 ≤ t.records) (plain : marked x ≡ false) where
      more : (file : Bool) {fine : Bool} → u ≡ noted_plain t e file fine c.pending → 2 ≤ u.records
      more file q = rw q (omega arith)

      same : (file : Bool) {fine : Bool} → u ≡ noted_plain t e file fine c.pending → file ≡ is_file x → fine ≡ (t.fine && name_fine x)
          → u ≡ noted t x
      same file {fine} q f g =
          q ∙ noted_plain_is t e file fine c.pending w.passes.whole two plain f g w.passes.onward.pending

      pub gathering_file : {m : Repeats} {after : List ℕ} → is_file x ≡ true → name_ok (name_of x) ≡ true → has_hash wanted x ≡ false
          → u ≡ noted_plain t e true t.fine c.pending → Carried (front_and image start t.records e) m after
          → Gathering image start wanted (record { cursor = c; tally = u; repeats = m; sight = g.sight }) after × (2 ≤ u.records)
      gathering_file y o k q h = (gathering_next (same true q (sym y) (fine_file y o)) h (rw (y, k)), more true q)

      pub gathering_dead : is_file x ≡ false → u ≡ noted_plain t e false t.fine c.pending
          → Gathering image start wanted (record { cursor = c; tally = u; repeats = g.repeats; sight = g.sight }) table
          × (2 ≤ u.records)
      gathering_dead y q = (gathering_other y (same false q (sym y) (fine_other y)), more false q)
