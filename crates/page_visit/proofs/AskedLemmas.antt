-- What pages asked of a desk, with one event more.
use Rattle.std.proofs.Common.{◌≡◌, ℕ, ◌+◌, List, [], ◌∷◌, ◌++◌, map, refl, sym, ap, ◌∙◌, arith, append_assoc, append-nil, subst}
use Rattle.std.proofs.lemmas.List.{map-append}
use Rattle.asp_messages.specs.declared.request.Request.{Request}
use Rattle.asp_messages.specs.declared.reply.Reply.{Reply as ReplyValue}
use Rattle.asp_messages.specs.Fields.{most_cookie}
use Rattle.plain_desk.specs.Draws.{draws, draw_of, deed_draws, draws_in}
use Rattle.plain_desk.specs.DeskStands.{DeskState, DeskStandsFor}
use Rattle.session_machine.specs.declared.entry.Entry.{Entry}
use Rattle.session_machine.specs.declared.entry.Deed.TheVariants.{Asked}
use Rattle.session_machine.specs.History.{nothing}
use Rattle.shard_core.specs.ShardStands.{asked_entry}
use Rattle.visit_core.specs.declared.act.Heard.TheVariants.{Reply, Strange}
use Rattle.visit_core.specs.VisitRule.{Event, heard, ended, lost}
use Rattle.page_visit.specs.Asked.{Said, said, asked, events_draw, replies_of, DeskHas, DeskDoes}

pub asked-append : (j : ℕ) (a b : List Event)
    → asked j (a ++ b) ≡ asked j a ++ asked (j + events_draw a) b
asked-append j [] b = ap (λ n. asked n b) (let e : j ≡ j + 0 = omega arith in e)
asked-append j (heard t request (Reply reply) ∷ a) b =
    let one : Said = (0, t, Asked request, draw_of 1 most_cookie j request.ask, reply) in
    let e : j + draws request.ask + events_draw a ≡ j + (draws request.ask + events_draw a) =
    omega arith in
    ap (λ rest. one ∷ rest) (asked-append (j + draws request.ask) a b
    ∙ ap (λ n. asked (j + draws request.ask) a ++ asked n b) e)
asked-append j (heard t request (Strange status) ∷ a) b = asked-append j a b
asked-append j (ended ending ∷ a) b = asked-append j a b
asked-append j (lost ∷ a) b = asked-append j a b

pub replies_of-append : (a b : List Event) → replies_of (a ++ b) ≡ replies_of a ++ replies_of b
replies_of-append [] b = refl
replies_of-append (heard t request (Reply reply) ∷ a) b =
    ap (λ rest. reply ∷ rest) (replies_of-append a b)
replies_of-append (heard t request (Strange status) ∷ a) b = replies_of-append a b
replies_of-append (ended ending ∷ a) b = replies_of-append a b
replies_of-append (lost ∷ a) b = replies_of-append a b

pub events_draw-append : (a b : List Event)
    → events_draw (a ++ b) ≡ events_draw a + events_draw b
events_draw-append [] b = omega arith
events_draw-append (heard t request (Reply reply) ∷ a) b =
    let rest = events_draw-append a b in omega (arith, rest)
events_draw-append (heard t request (Strange status) ∷ a) b = events_draw-append a b
events_draw-append (ended ending ∷ a) b = events_draw-append a b
events_draw-append (lost ∷ a) b = events_draw-append a b

pub draws_in-append : (a b : List Entry) → draws_in (a ++ b) ≡ draws_in a + draws_in b
draws_in-append [] b = omega arith
draws_in-append (e ∷ a) b = let rest = draws_in-append a b in omega (arith, rest)

-- the entries that say it drew as many cookies
pub draws_in-asked : (j : ℕ) (list : List Entry) (events : List Event)
    → map said list ≡ asked j events → draws_in list ≡ events_draw events
draws_in-asked j [] [] is = refl
draws_in-asked j (e ∷ list) [] is = cc
draws_in-asked j [] (heard t request (Reply reply) ∷ events) is = cc
draws_in-asked j (e ∷ list) (heard t request (Reply reply) ∷ events) is =
    let tail : map said list ≡ asked (j + draws request.ask) events = cc in
    let head : said e ≡ (0, t, Asked request, draw_of 1 most_cookie j request.ask, reply) = cc in
    let one : deed_draws e.deed ≡ draws request.ask = ap (λ (s : Said). deed_draws s.2) head in
    let rest = draws_in-asked (j + draws request.ask) list events tail in
    omega (arith, one, rest)
draws_in-asked j list (heard t request (Strange status) ∷ events) is =
    draws_in-asked j list events is
draws_in-asked j list (ended ending ∷ events) is = draws_in-asked j list events is
draws_in-asked j list (lost ∷ events) is = draws_in-asked j list events is

-- and has the same replies
pub replies-asked : (j : ℕ) (list : List Entry) (events : List Event)
    → map said list ≡ asked j events → map (λ (e : Entry). e.reply) list ≡ replies_of events
replies-asked j [] [] is = refl
replies-asked j (e ∷ list) [] is = cc
replies-asked j [] (heard t request (Reply reply) ∷ events) is = cc
replies-asked j (e ∷ list) (heard t request (Reply reply) ∷ events) is =
    let tail : map said list ≡ asked (j + draws request.ask) events = cc in
    let head : said e ≡ (0, t, Asked request, draw_of 1 most_cookie j request.ask, reply) = cc in
    let one : e.reply ≡ reply = ap (λ (s : Said). s.4) head in
    ap (λ r. r ∷ map (λ (f : Entry). f.reply) list) one
    ∙ ap (λ rest. reply ∷ rest) (replies-asked (j + draws request.ask) list events tail)
replies-asked j list (heard t request (Strange status) ∷ events) is =
    replies-asked j list events is
replies-asked j list (ended ending ∷ events) is = replies-asked j list events is
replies-asked j list (lost ∷ events) is = replies-asked j list events is

-- ---- the desk

module _ (CanCount : ℕ → Type 0) where
  -- events that ask nothing
  pub DeskDoes-nothing : (desk : DeskState) (events : List Event)
      → ((j : ℕ) → asked j events ≡ []) → DeskDoes CanCount desk desk events
  DeskDoes-nothing desk events none list has = record {
    more = [];
    says = sym (none (draws_in list));
    has = subst (λ l. DeskHas CanCount l desk) (sym (append-nil list)) has;
  }

  -- events, and events behind them
  pub DeskDoes-then : (old mid new : DeskState) (a b : List Event) → DeskDoes CanCount old mid a
      → DeskDoes CanCount mid new b → DeskDoes CanCount old new (a ++ b)
  DeskDoes-then old mid new a b first second list has =
      let one = first list has in
      let two = second (list ++ one.more) one.has in
      let drew : draws_in (list ++ one.more) ≡ draws_in list + events_draw a =
      draws_in-append list one.more
      ∙ ap (λ n. draws_in list + n) (draws_in-asked (draws_in list) one.more a one.says) in
      record {
        more = one.more ++ two.more;
        says = map-append said one.more two.more
            ∙ ap (λ s. s ++ map said two.more) one.says
            ∙ ap (λ s. asked (draws_in list) a ++ s) (two.says ∙ ap (λ n. asked n b) drew)
            ∙ sym (asked-append (draws_in list) a b);
        has = subst (λ l. DeskHas CanCount l new) (append_assoc list one.more two.more) two.has;
      }

  -- one request was answered
  pub DeskDoes-one : (old new : DeskState) (t drawn : ℕ) (request : Request) (reply : ReplyValue)
      → new.cookies.last ≡ old.cookies.last
      → ((list : List Entry) → DeskStandsFor CanCount 1 nothing 0 list old
      → (drawn ≡ draw_of 1 old.cookies.last (draws_in list) request.ask)
      × DeskStandsFor CanCount 1 nothing 0
      (list ++ asked_entry 0 t request drawn reply new.faults ∷ []) new)
      → DeskDoes CanCount old new (heard t request (Reply reply) ∷ [])
  DeskDoes-one old new t drawn request reply last acts list has =
      let now = acts list has.stands in
      let counted : drawn ≡ draw_of 1 most_cookie (draws_in list) request.ask =
      now.0 ∙ ap (λ l. draw_of 1 l (draws_in list) request.ask) has.last in
      record {
        more = asked_entry 0 t request drawn reply new.faults ∷ [];
        says = ap (λ d. let one : Said = (0, t, Asked request, d, reply) in one ∷ []) counted;
        has = record { stands = now.1; last = last ∙ has.last };
      }
