-- Where a name stands among the pages of a script.
use Rattle.std.specs.Prelude.{◌≡◌, ◌≢◌, ℕ, ◌<◌, List, length, slice_index_or}
use Rattle.std.specs.List.{AllByRecursion}
use Rattle.page_script.specs.declared.script_page.ScriptPage.{ScriptPage}

-- no page has the name
abbrev pub IsUnused : List ScriptPage → List ℕ → Type 0
IsUnused pages name = AllByRecursion (λ page. page.name ≢ name) pages

-- The page at the place has the name.
pub record IsIndexOf (pages : List ScriptPage) (name : List ℕ) (place : ℕ) : Type 0 where
  pub inside : place < length pages
  pub page : ScriptPage
  pub there : page ≡ slice_index_or pages place page
  pub named : page.name ≡ name
