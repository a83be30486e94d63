-- A page's visit to a desk, from its first ask to its end, as a function of the desk's replies.
use Rattle.std.specs.Prelude.{ℕ, zero, suc, List, [], ◌∷◌, ◌++◌, Option, None}
use Rattle.asp_messages.specs.declared.request.Request.{Request}
use Rattle.asp_messages.specs.declared.reply.Reply.{Reply as ReplyValue}
use Rattle.visit_core.specs.declared.act.Ending.{Ending}
use Rattle.visit_core.specs.declared.act.Heard.TheVariants.{Reply}
use Rattle.visit_core.specs.declared.outcome.Outcome.{Outcome}
use Rattle.visit_core.specs.declared.visit_terms.Need.{Need}
use Rattle.visit_core.specs.Acts.{Action, send, wait_until, run, over}
use Rattle.visit_core.specs.VisitRule.{Event, heard, ended, act_of}
use Rattle.visit_core.specs.Terms.{VisitTerms, default_limits, most_requests}

-- how a page's run came out: with this outcome, where the page ran on this content; or the replies
-- ran out before
pub data PageEnd : Type 0 where
  came_to : Outcome → Option (List ℕ) → PageEnd
  cut_off : PageEnd

-- A page's run: its events, how it came out, and the replies that it did not hear.
pub record PageRun : Type 0 where
  pub past : List Event
  pub end : PageEnd
  pub left : List ReplyValue

-- what follows an act: by the request that is sent, the moment until which the visit waits, the
-- content on which the page runs, or the outcome
unfoldable pub page_next : Action → (Request → PageRun) → (ℕ → PageRun)
    → (Option (List ℕ) → PageRun) → (Outcome → PageRun) → PageRun
page_next (send request) sent waited ran ended_so = sent request
page_next (wait_until moment) sent waited ran ended_so = waited moment
page_next (run content first) sent waited ran ended_so = ran content
page_next (over outcome) sent waited ran ended_so = ended_so outcome

-- what follows a request: by the first of the replies and those behind it
unfoldable pub page_hears : List ReplyValue → PageRun → (ReplyValue → List ReplyValue → PageRun)
    → PageRun
page_hears [] none some = none
page_hears (reply ∷ replies) none some = some reply replies

-- At most so many acts of a page with these terms and this ending, from this past and moment on. A
-- request is heard at its moment, a wait sets the moment, and a page that runs ends so.
unfoldable pub page_from : ℕ → VisitTerms → Ending → List Event → ℕ → Option (List ℕ)
    → List ReplyValue → PageRun
page_from zero terms ending past t content replies =
    record { past = past; end = cut_off; left = replies }
page_from (suc n) terms ending past t content replies = page_next (act_of terms past t)
    (λ request. page_hears replies (record { past = past; end = cut_off; left = [] })
    (λ reply later. page_from n terms ending (past ++ heard t request (Reply reply) ∷ []) t content
    later))
    (λ moment. page_from n terms ending past moment content replies)
    (λ body. page_from n terms ending (past ++ ended ending ∷ []) t body replies)
    (λ outcome. record { past = past; end = came_to outcome content; left = replies })

-- the terms of a page of this key and need
abbrev pub page_terms : List ℕ → Need → VisitTerms
page_terms key need = record { key = key; need = need; limits = default_limits }

-- the whole run of a page that begins at this moment
abbrev pub page_run : VisitTerms → Ending → ℕ → List ReplyValue → PageRun
page_run terms ending t replies =
    page_from (suc (most_requests terms.limits)) terms ending [] t None replies
