-- Behind the records: where the chain breaks off, or the free run; and what comes of it.
use Rattle.std.specs.Prelude.{Option, Some, None, ℕ, zero, suc, ◌+◌, Bool, take, drop, get_or}
use Rattle.std.proofs.Common.{◌∙◌, get_or-drop}
use Rattle.std.proofs.Math.Path.{◌≡◌, refl, sym, ap}
use Rattle.std.proofs.Math.Bool.{true, false}
use mathlib.Core.List.{List, [], ◌∷◌, ◌++◌}
use Rattle.spec.specs.declared.Rule.{Rule}
use Rattle.spec.specs.Refusals.{RefusalNumbers}
use Rattle.spec.specs.Step.{Image}
use Rattle.spec.specs.declared.Fault.{Fault}
use Rattle.spec.specs.declared.Verdict.{Verdict}
use Rattle.spec.specs.Basics.{Answer, refuse, give, numbered, any}
use Rattle.spec.specs.Record.{Entry}
use Rattle.spec.specs.Head.{head}
use Rattle.spec.specs.Chain.{Reading, reading_from}
use Rattle.spec.specs.Files.{superseded}
use Rattle.spec.specs.Reading.{head_clean, whole, legal, judged, reading}
use Rattle.spec.specs.Mount.{settled}
use Rattle.spec.specs.Fault.{broken, last_open, name_wrong, chain_fault, stop_rule, cut_off, end_fault, first_fault}
use Rattle.spec.specs.Verdict.{second_marked, wrap_torn, first_repair, repair_verdict, verdict_of, verdict_from, verdict}
use Rattle.chain.specs.declared.Cursor.{Cursor}
use Rattle.reading.specs.declared.Survey.{Survey}
use Rattle.chain.specs.Rest.{rest}
use Rattle.reading.specs.Read.{first_cursor, reading_of}
use Rattle.checking.specs.declared.CutOff.{CutOff}
use Rattle.checking.specs.Clear.{clear}
use Rattle.checking.specs.Legal.{clear_legal}
use Rattle.checking.specs.Dirt.{free_fault_by, free_fault_is}
use Rattle.checking.specs.Stop.{cut_entry, cut_list}
use Rattle.checking.specs.Records.{all_of}
use Rattle.checking.specs.Called.{cut_wrong, cut_name}
use Rattle.checking.specs.Repairs.{is_none, settled_number}
use Rattle.laws.specs.Tests.{wrong}

-- ---- the record that is cut off

-- of its name, else of its end
unfoldable pub cut_rule : Image → Cursor → CutOff → Rule
cut_rule image start cut =
    elim (name_wrong ((rest image start).entries ++ cut_entry image cut ∷ []) (rest image start).entries (cut_entry image cut)) [
      | true ↦ Rule.Name
      | false ↦ Rule.End
    ]

module _ (image : Image) (start : Cursor) (cut : CutOff) (b : Bool)
    (q : b ≡ cut_wrong (rest image start).entries (get_or image (cut.at + 2) 0)
    (take cut.n (drop 8 (drop cut.at image)))) where
  wrong_is : name_wrong ((rest image start).entries ++ cut_entry image cut ∷ []) (rest image start).entries (cut_entry image cut) ≡ b
  wrong_is =
      cut_name (rest image start).entries (cut_entry image cut)
      ∙ ap (λ (st : ℕ). cut_wrong (rest image start).entries st (take cut.n (drop 8 (drop cut.at image)))) (get_or-drop cut.at image 2 0)
      ∙ sym q

  pub rule_name : b ≡ true → Rule.Name ≡ cut_rule image start cut
  unfolding cut_rule
  rule_name t = rw (cut_rule, wrong_is ∙ t)

  pub rule_end : b ≡ false → Rule.End ≡ cut_rule image start cut
  unfolding cut_rule
  rule_end t = rw (cut_rule, wrong_is ∙ t)

-- ---- the repair that comes first

module _ (image : Image) (r : Reading) (a : Bool) (p : a ≡ head_clean r.entries) where
  pub repair_one : a ≡ true → 1 ≡ first_repair r
  unfolding first_repair
  repair_one t = rw (first_repair, sym p ∙ t)

  module _ (t : a ≡ false) (b : Bool) (q : b ≡ second_marked r.entries) where
    pub repair_two : b ≡ true → 2 ≡ first_repair r
    unfolding first_repair
    repair_two u = rw (first_repair, sym p ∙ t, sym q ∙ u)

    module _ (u : b ≡ false) (d : Bool) (s : d ≡ last_open r.entries) where
      pub repair_open : d ≡ true → 3 ≡ first_repair r
      unfolding first_repair
      repair_open v = rw (first_repair, sym p ∙ t, sym q ∙ u, sym s ∙ v)

      module _ (v : d ≡ false) (e : Bool) (w : e ≡ wrap_torn r.ending) where
        pub repair_wrap : e ≡ true → 3 ≡ first_repair r
        unfolding first_repair
        repair_wrap x = rw (first_repair, sym p ∙ t, sym q ∙ u, sym s ∙ v, sym w ∙ x)

        pub repair_four : e ≡ false → settled image r ≡ false → 4 ≡ first_repair r
        unfolding first_repair
        repair_four x n = go (any (superseded r.entries) r.entries) refl where
          go : (c : Bool) → any (superseded r.entries) r.entries ≡ c → 4 ≡ first_repair r
          go true y = rw (first_repair, sym p ∙ t, sym q ∙ u, sym s ∙ v, sym w ∙ x, y)
          go false y =
              let z : first_repair r ≡ 0 = rw (first_repair, sym p ∙ t, sym q ∙ u, sym s ∙ v, sym w ∙ x, y) in
              wrong (sym n ∙ settled_number image r ∙ ap is_none z)

-- ---- where the chain breaks off, or the free run

module _ (image : Image) (s : Survey) where
  pub stop_cut : (cut : CutOff) (start : Cursor) (r : Rule) → start ≡ first_cursor image s.place.head → r ≡ cut_rule image start cut
      → r ≡ stop_rule image (reading_of image s) (cut_list image (Some cut))
  unfolding cut_rule stop_rule
  stop_cut cut start r e q = q ∙ ap (λ (c : Cursor). cut_rule image c cut) e

module _ (image : Image) (r : Reading) (b : Bool) (p : b ≡ whole r.ending) where
  pub end_free : (t : Bool) (f : Option Fault) → b ≡ true → t ≡ head_clean r.entries → f ≡ free_fault_by t image r.place
      → f ≡ end_fault image r
  unfolding end_fault
  end_free t f u q g = rw (end_fault, sym p ∙ u) (g ∙ free_fault_is image r t q)

  pub end_stop : (c : List Entry) (rule : Rule) → b ≡ false → c ≡ cut_off image r → rule ≡ stop_rule image r c
      → broken rule r.place.tail ≡ end_fault image r
  unfolding end_fault
  end_stop c rule u q g =
      rw (end_fault, sym p ∙ u) (ap (λ (x : Rule). broken x r.place.tail) (g ∙ ap (stop_rule image r) q))

module _ (image : Image) (s : Survey) (start : Cursor) (cut : Option CutOff) (e : start ≡ first_cursor image s.place.head)
    (q : cut_list image cut ≡ cut_off image (reading_of image s)) where
  pub chain_is : let r = reading_of image s in chain_fault s.ending (all_of image start cut) [] (rest image start).entries
      ≡ chain_fault r.ending (r.entries ++ cut_off image r) [] r.entries
  unfolding all_of
  chain_is =
      ap (λ (c : Cursor). chain_fault s.ending ((rest image c).entries ++ cut_list image cut) [] (rest image c).entries) e
      ∙ ap (λ (l : List Entry). let r = reading_of image s in chain_fault s.ending (r.entries ++ l) [] r.entries) q

-- ---- the verdict

abbrev pub Refuses : Answer Reading → Type 0
Refuses (refuse x) = Unit {0}
Refuses (give r) = ⊥

abbrev is_given : Answer Reading → Bool
is_given (refuse x) = false
is_given (give r) = true

pub refused_is : (image : Image) (x : RefusalNumbers) → refuse x ≡ reading image → Refuses (reading image)
refused_is image x q = rw (← q) tt

module _ (image : Image) (r : Reading) where
  none_due : (k : ℕ) → is_none k ≡ true → Verdict.Settled ≡ repair_verdict k
  none_due zero h = refl
  none_due (suc k) h = wrong h

  some_due : (k : ℕ) → is_none k ≡ false → Verdict.Recovery k ≡ repair_verdict k
  some_due zero h = wrong (sym h)
  some_due (suc k) h = refl

  pub sound_settled : (t : Bool) → t ≡ settled image r → t ≡ true → Verdict.Settled ≡ repair_verdict (first_repair r)
  sound_settled t q u = none_due (first_repair r) (sym (settled_number image r) ∙ sym q ∙ u)

  pub sound_recovery : (t : Bool) (k : ℕ) → t ≡ settled image r → t ≡ false → k ≡ first_repair r
      → Verdict.Recovery k ≡ repair_verdict (first_repair r)
  sound_recovery t k q u g = ap Verdict.Recovery g ∙ some_due (first_repair r) (sym (settled_number image r) ∙ sym q ∙ u)

module _ (image : Image) (h : ℕ) (s : Survey) (e : reading_of image s ≡ reading_from image h) where
  pub broken_there : (f : Fault) → Some f ≡ first_fault image (reading_of image s)
      → Verdict.Broken f.rule f.at ≡ verdict_of image (reading_from image h)
  unfolding verdict_of
  broken_there f q = rw (← e, verdict_of, sym q)

  pub broken_not : legal image (reading_from image h) ≡ false → None ≡ first_fault image (reading_of image s) → ⊥
  broken_not l q = wrong (sym l ∙ sym (clear_legal image (reading_from image h)) ∙ ap clear (rw e at (sym q)))

module _ (image : Image) where
  pub verdict_headless : (x : RefusalNumbers) → refuse x ≡ head image → Verdict.Broken Rule.Head 0 ≡ verdict image
  unfolding verdict verdict_from
  verdict_headless x q = rw (verdict, ← q)

  pub verdict_headed : (h : ℕ) (v : Verdict) → give h ≡ head image → v ≡ verdict_of image (reading_from image h) → v ≡ verdict image
  unfolding verdict verdict_from
  verdict_headed h v q g = rw (verdict, ← q) g

  -- refused from this head on
  pub unlawful : (h : ℕ) → give h ≡ head image → Refuses (reading image) → legal image (reading_from image h) ≡ false
  unfolding reading judged
  unlawful h q z = go (legal image (reading_from image h)) refl where
    go : (t : Bool) → legal image (reading_from image h) ≡ t → legal image (reading_from image h) ≡ false
    go true l = absurd (let y : Refuses (give (reading_from image h)) = rw (reading, ← q, judged, l) at z in y)
    go false l = l

  -- a legal image
  headed : (h : ℕ) (r : Reading) (t : Bool) → head image ≡ give h → legal image (reading_from image h) ≡ t → give r ≡ reading image
      → repair_verdict (first_repair r) ≡ verdict image
  unfolding reading judged verdict verdict_from verdict_of
  headed h r true e l q =
      let g : give r ≡ give (reading_from image h) = q ∙ rw (reading, e, judged, l) in
      let same : r ≡ reading_from image h = given g in
      let f : first_fault image (reading_from image h) ≡ None =
      clear_none (first_fault image (reading_from image h)) (clear_legal image (reading_from image h) ∙ l) in
      rw (same, verdict, e, verdict_of, f)
    where
      given : {x y : Reading} → ◌≡◌ {A = Answer Reading} (give x) (give y) → x ≡ y
      given h = cc

      clear_none : (f : Option Fault) → clear f ≡ true → f ≡ None
      clear_none None h = refl
      clear_none (Some f) h = wrong h
  headed h r false e l q =
      let g : give r ≡ refuse (numbered 5) = q ∙ rw (reading, e, judged, l) in wrong (sym (ap is_given g))

  pub lawful : (r : Reading) → give r ≡ reading image → repair_verdict (first_repair r) ≡ verdict image
  unfolding reading
  lawful r q = go (head image) refl where
    go : (x : Answer ℕ) → head image ≡ x → repair_verdict (first_repair r) ≡ verdict image
    go (refuse n) e = let g : give r ≡ refuse n = q ∙ rw (reading, e) in wrong (sym (ap is_given g))
    go (give h) e = headed h r _ e refl q
