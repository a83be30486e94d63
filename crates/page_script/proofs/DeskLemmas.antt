-- A desk goes on by one turn.
use Rattle.std.proofs.Common.{◌≡◌, ℕ, List, [], ◌∷◌, ◌++◌, sym, ap, ◌∙◌, subst}
use Rattle.std.proofs.lemmas.List.{map-append}
use Rattle.asp_messages.specs.declared.request.Request.{Request}
use Rattle.asp_messages.specs.declared.reply.Reply.{Reply}
use Rattle.plain_desk.specs.Draws.{draw_of, draws_in}
use Rattle.plain_desk.specs.DeskStands.{DeskState, DeskStandsFor}
use Rattle.plain_desk.specs.Openings.{Opening}
use Rattle.shard_core.specs.ShardStands.{asked_entry}
use Rattle.page_script.specs.World.{WorldTurn, history, entry_of_turn, drawn_for}
use Rattle.page_script.specs.ScriptStands.{DeskHasTurns, turn_at}

module _ (CanCount : ℕ → Type 0) (desk desk' : DeskState) (opening : Opening)
    (turns : List WorldTurn) (number t drawn : ℕ) (request : Request) (reply : Reply)
  where
    abbrev DrawsNext : Type 0
    DrawsNext = drawn
        ≡ draw_of opening.cookies.next desk.cookies.last (draws_in (history turns)) request.ask

    abbrev GoesOn : Type 0
    GoesOn = DeskStandsFor CanCount opening.cookies.next opening.items opening.count
        (history turns ++ asked_entry 0 t request drawn reply desk'.faults ∷ []) desk'

    abbrev turn : WorldTurn
    turn = turn_at number t opening turns
        (record { request = request; reply = reply; faults = desk'.faults })

    pub DeskHasTurns-push : DeskHasTurns CanCount desk opening turns
        → desk'.cookies.last ≡ desk.cookies.last
        → (DeskStandsFor CanCount opening.cookies.next opening.items opening.count (history turns)
        desk → DrawsNext × GoesOn)
        → DeskHasTurns CanCount desk' opening (turns ++ turn ∷ [])
    DeskHasTurns-push stands last acts = record {
      stands =
          subst (λ list. DeskStandsFor CanCount opening.cookies.next opening.items opening.count
          list desk')
          (ap (λ d. history turns ++ asked_entry 0 t request d reply desk'.faults ∷ []) counted
          ∙ sym (map-append entry_of_turn turns (turn ∷ []))) now.1;
      last = last ∙ stands.last;
    }
      where
        now : DrawsNext × GoesOn
        now = acts stands.stands

        counted : drawn ≡ drawn_for opening turns request.ask
        counted = now.0
            ∙ ap (λ l. draw_of opening.cookies.next l (draws_in (history turns)) request.ask)
            stands.last
