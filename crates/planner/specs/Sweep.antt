-- The moves of a planned sweep, one after another.
use Rattle.std.specs.Prelude.{ℕ, suc, ◌+◌, ◌*◌, ◌≤◌, ◌^◌, ◌≡◌, refl, List, [], ◌∷◌, length, None}
use Rattle.std.proofs.Common.{arith, sym, ap, subst, ◌∙◌}
use Rattle.spec.specs.Step.{Image, Step}
use Rattle.spec.specs.Basics.{concat}
use Rattle.spec.specs.Record.{Entry}
use Rattle.planning.specs.Planned.{walked}
use Rattle.window.specs.declared.Emitter.{Emitter}
use Rattle.planner.specs.declared.Walk.{Walk}
use Rattle.window.specs.Handed.{Handed, Leads, leads_all, leads_more, leads_end}
use Rattle.planner.specs.Moves.{Known, moves_left, Went, MoveHanded}

-- all moves were handed out: so many
pub record MovesHanded (w : Emitter) (ms : List (List Step)) (n : ℕ) (r : Emitter) : Type 0 where
  pub handed : Handed w (concat ms) r
  pub count : n ≡ length ms

-- n of the moves ms are handed out, and at most `left` may follow from the walk v on
pub record Walking (image : Image) (all : List Entry) (ms : List (List Step)) (w q : Emitter) (left n : ℕ) (v : Walk) : Type 0 where
  pub leads : Leads w (concat ms) q (concat (moves_left image left all v))
  pub count : n + length (moves_left image left all v) ≡ length ms
  pub known : Known image v
  pub few : q.passed ≤ w.passed + n * 2 ^ 27

none_left : (image : Image) (all : List Entry) (v : Walk) → moves_left image 0 all v ≡ []
unfolding walked
none_left image all v = refl

module _ {image : Image} {all : List Entry} where
  pub walking_start : (w : Emitter) (most : ℕ) (v : Walk) → Known image v → Walking image all (moves_left image most all v) w w most 0 v
  walking_start w most v k = record { leads = leads_all w _; count = omega arith; known = k; few = omega arith }

  module _ {ms : List (List Step)} {w q : Emitter} {left n : ℕ} {v : Walk} (g : Walking image all ms w q left n v) where
    ended : moves_left image left all v ≡ [] → MovesHanded w ms n q
    ended e = record { handed = leads_end g.leads (ap concat e); count = omega (arith, g.count, ap length e) }

    pub walking_end : left ≡ 0 → MovesHanded w ms n q
    walking_end z = ended (ap (λ (k : ℕ). moves_left image k all v) z ∙ none_left image all v)

    pub walking_stop : (k : ℕ) → left ≡ suc k → (r : Emitter) → MoveHanded image all v q r None → MovesHanded w ms n r
    walking_stop k z r o =
        subst (λ (x : Emitter). MovesHanded w ms n x) (sym o.0) (ended (ap (λ (i : ℕ). moves_left image i all v) z ∙ o.1 k))

    pub walking_more : (k : ℕ) → left ≡ suc k → (x : Walk) (r : Emitter) → Went image all v q x r → Walking image all ms w r k (n + 1) x
    walking_more k z x r o =
        let e : moves_left image left all v ≡ o.steps ∷ moves_left image k all x = ap (λ (i : ℕ). moves_left image i all v) z
        ∙ o.moves k in
        record {
          leads = leads_more g.leads (ap concat e) o.handed;
          count = omega (arith, g.count, ap length e);
          known = o.known;
          few = omega (arith, g.few, o.few);
        }
