-- The answers to page requests, as a function of the random draws and of the desk's replies.
use Rattle.std.specs.Prelude.{ℕ, ◌+◌, ◌*◌, ◌^◌, List, [], ◌∷◌, ◌++◌, min, codes, Option, Some, None, IsTrue, is_some}
use Rattle.asp_messages.specs.declared.reply.Reply.{Reply}
use Rattle.session_id.specs.Identifiers.{text_of}
use Rattle.visit_core.specs.declared.outcome.Outcome.{Outcome}
use Rattle.visit_core.specs.declared.outcome.Outcome.TheVariants.{Done}
use Rattle.visit_core.specs.OutcomeText.{outcome_spelling}
use Rattle.visit_core.specs.VisitRule.{Event}
use Rattle.visit_core.specs.Terms.{VisitTerms}
use Rattle.page_requests.specs.declared.identities.Mode.{Mode}
use Rattle.page_requests.specs.declared.identities.Mode.TheVariants.{Cookie, Url}
use Rattle.page_requests.specs.declared.page.Page.{Page}
use Rattle.page_requests.specs.declared.page.Page.TheVariants.{Get}
use Rattle.page_requests.specs.declared.request.PageRequest.{PageRequest}
use Rattle.page_requests.specs.Identities.{IdentityOf, identity_of}
use Rattle.page_requests.specs.Pages.{page_at, page_need, ending_of}
use Rattle.page_visit.specs.Runs.{PageEnd, came_to, cut_off, PageRun, page_run, page_terms}
use Rattle.id_gateway.specs.declared.answer.Answer.{Answer}
use Rattle.id_gateway.specs.declared.answer.Status.{Status}
use Rattle.id_gateway.specs.declared.answer.Status.TheVariants as statuses
use Rattle.id_gateway.specs.declared.words.GateTerms.{GateTerms}
use Rattle.id_gateway.specs.Answers.{answer_text, location_of}
use Rattle.id_gateway.specs.Draws.{Draw}

-- the moment at which the k-th page begins, from 0
abbrev pub page_moment : GateTerms → ℕ → ℕ
page_moment gate k = min (gate.start + k * gate.step) (2 ^ 61)

-- the key of an identifier's item
abbrev pub session_key : List ℕ → List ℕ
session_key id = codes "/gate/" ++ text_of id

-- ---- one request

-- A visit of a page: its terms, and its events.
pub record Visited : Type 0 where
  pub terms : VisitTerms
  pub past : List Event

-- What became of a request: its answer, none where its page was cut off, and the visit of its page,
-- none where no page ran.
pub record Served : Type 0 where
  pub answer : Option Answer
  pub visited : Option Visited

-- The same, with the draws and the replies that are left.
pub record Serving : Type 0 where
  pub served : Served
  pub draws : List Draw
  pub replies : List Reply

-- an answer without a page
abbrev pub without_page : Answer → List Draw → List Reply → Serving
without_page answer draws replies = record {
  served = record { answer = Some answer; visited = None };
  draws = draws;
  replies = replies;
}

-- an answer without a target and a body
abbrev pub plain_answer : Status → Option (List ℕ) → Answer
plain_answer status new_id = record {
  status = status;
  location = None;
  new_id = new_id;
  body = [];
}

-- the browser is sent to the same target, behind its new identifier
abbrev pub redirect : List ℕ → List ℕ → Answer
redirect id target = record {
  status = statuses.Found;
  location = Some (location_of id target);
  new_id = None;
  body = [];
}

-- what a page shows: the content, where it is there to show it
abbrev pub shown_by : Page → Option (List ℕ) → List ℕ
shown_by Get (Some content) = content
shown_by page content = []

-- the answer of a page whose visit came out so: what it shows, or the outcome's spelling
abbrev pub outcome_answer : Page → Option (List ℕ) → Option (List ℕ) → Outcome → Answer
outcome_answer page new_id content Done = record {
  status = statuses.Ok;
  location = None;
  new_id = new_id;
  body = shown_by page content;
}
outcome_answer page new_id content outcome = record {
  status = statuses.Unavailable;
  location = None;
  new_id = new_id;
  body = outcome_spelling outcome;
}

-- the answer of a page whose run ended so, none where it was cut off
abbrev pub page_answer : Page → Option (List ℕ) → PageEnd → Option Answer
page_answer page new_id (came_to outcome content) =
    Some (outcome_answer page new_id content outcome)
page_answer page new_id cut_off = None

-- what the page's visit is for: the item of the identifier, as the page needs it
abbrev pub visit_terms : Page → List ℕ → VisitTerms
visit_terms page id = page_terms (session_key id) (page_need page)

-- what a page's run comes to
abbrev pub visit_of : Page → Option (List ℕ) → VisitTerms → List Draw → PageRun → Serving
visit_of page new_id terms draws run = record {
  served = record {
    answer = page_answer page new_id run.end;
    visited = Some (record { terms = terms; past = run.past });
  };
  draws = draws;
  replies = run.left;
}

-- a request with an identifier: its page runs, where its path names one
abbrev pub serve_at : Option Page → Option (List ℕ) → List ℕ → ℕ → List ℕ → List Draw → List Reply
    → Serving
serve_at None new_id id t body draws replies =
    without_page (plain_answer statuses.NotFound new_id) draws replies
serve_at (Some page) new_id id t body draws replies =
    visit_of page new_id (visit_terms page id) draws
    (page_run (visit_terms page id) (ending_of page body) t replies)

-- a request with a new identifier
abbrev pub serve_new : Mode → List ℕ → ℕ → PageRequest → List Draw → List Reply → Serving
serve_new Cookie id t request draws replies =
    serve_at (page_at request.verb request.target) (Some id) id t request.body draws replies
serve_new Url id t request draws replies =
    without_page (redirect id request.target) draws replies

-- a request whose identifier was drawn
abbrev pub serve_value : Mode → Option (List ℕ) → ℕ → PageRequest → List Draw → List Reply → Serving
serve_value mode None t request draws replies =
    without_page (plain_answer statuses.NoIdentifier None) draws replies
serve_value mode (Some id) t request draws replies = serve_new mode id t request draws replies

-- a request without an identifier: one is drawn
abbrev pub serve_drawn : Mode → ℕ → PageRequest → List Draw → List Reply → Serving
serve_drawn mode t request [] replies = record {
  served = record { answer = None; visited = None };
  draws = [];
  replies = replies;
}
serve_drawn mode t request (draw ∷ draws) replies =
    serve_value mode draw.value t request draws replies

-- a request, by the identifier that was found in it
abbrev pub serve_found : Option IdentityOf → Mode → ℕ → PageRequest → List Draw → List Reply
    → Serving
serve_found None mode t request draws replies = serve_drawn mode t request draws replies
serve_found (Some identity) mode t request draws replies =
    serve_at (page_at request.verb identity.path) None identity.id t request.body draws replies

-- a request
unfoldable pub serve : Mode → ℕ → PageRequest → List Draw → List Reply → Serving
serve mode t request draws replies =
    serve_found (identity_of mode request) mode t request draws replies

-- ---- requests

-- what becomes of requests, from the k-th on
abbrev pub serves : GateTerms → ℕ → List PageRequest → List Draw → List Reply → List Served
serves gate k [] draws replies = []
serves gate k (request ∷ requests) draws replies =
    (serve gate.mode (page_moment gate k) request draws replies).served
    ∷ serves gate (k + 1) requests
    (serve gate.mode (page_moment gate k) request draws replies).draws
    (serve gate.mode (page_moment gate k) request draws replies).replies

-- the text of an answer, where there is one
abbrev pub text_given : Option Answer → List ℕ
text_given None = []
text_given (Some answer) = answer_text answer

-- the texts of the answers, in order
abbrev pub texts : List Served → List ℕ
texts [] = []
texts (one ∷ served) = text_given one.answer ++ texts served

-- the events of the visit of a request's page
abbrev pub visited_events : Option Visited → List Event
visited_events None = []
visited_events (Some visit) = visit.past

-- the events of all visits, in order
abbrev pub events : List Served → List Event
events [] = []
events (one ∷ served) = visited_events one.visited ++ events served

-- it was answered
abbrev pub IsAnswered : Served → Type 0
IsAnswered one = IsTrue (is_some one.answer)

-- how many draws a request takes: one where it has no identifier that reads
abbrev pub draws_for : Option IdentityOf → ℕ
draws_for None = 1
draws_for (Some identity) = 0

-- how many draws requests take
abbrev pub draws_needed : Mode → List PageRequest → ℕ
draws_needed mode [] = 0
draws_needed mode (request ∷ requests) =
    draws_for (identity_of mode request) + draws_needed mode requests
