-- The pages, by verb and path.
use Rattle.std.specs.Prelude.{ℕ, List, codes, Option, Some, None, if◌then◌else◌}
use Rattle.std.specs.Str.{bytes_eq}
use Rattle.visit_core.specs.declared.visit_terms.Need.{Need}
use Rattle.visit_core.specs.declared.visit_terms.Need.TheVariants as needs
use Rattle.visit_core.specs.declared.act.Ending.{Ending}
use Rattle.visit_core.specs.declared.act.Ending.TheVariants as endings
use Rattle.page_requests.specs.declared.page.Page.{Page}
use Rattle.page_requests.specs.declared.page.Page.TheVariants.{Get, Put, End, Touch}
use Rattle.page_requests.specs.declared.request.Verb.{Verb}
use Rattle.page_requests.specs.declared.request.Verb.TheVariants as verbs

-- the page of a verb and a path
abbrev pub page_at : Verb → List ℕ → Option Page
page_at verbs.Get path =
    if bytes_eq path (codes "/get") then Some Get
    else (if bytes_eq path (codes "/touch") then Some Touch else None)
page_at verbs.Post path =
    if bytes_eq path (codes "/put") then Some Put
    else (if bytes_eq path (codes "/end") then Some End else None)
page_at verbs.Other path = None

-- what a page needs of its session
abbrev pub page_need : Page → Need
page_need Get = needs.ReadOnly
page_need Put = needs.Exclusive
page_need End = needs.Exclusive
page_need Touch = needs.Off

-- how a page ends that was sent this body
abbrev pub ending_of : Page → List ℕ → Ending
ending_of Get body = endings.Keep
ending_of Put body = endings.Save body 20
ending_of End body = endings.Abandon
ending_of Touch body = endings.Keep
