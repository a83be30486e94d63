-- A run of a farm and one line more.
use Rattle.std.proofs.Common.{◌≡◌, ℕ, ◌<◌, Bool, true, false, cond, List, [], ◌∷◌, ◌++◌, refl, sym, ap, ◌∙◌, subst, append_assoc, append-nil}
use Rattle.std.specs.Prelude.{◌==◌, map}
use Rattle.std.specs.List.{AllByRecursion}
use Rattle.std.proofs.lemmas.List.{map-append}
use Rattle.page_script.specs.declared.line.Line.{Line}
use Rattle.page_script.specs.World.{World, IsWorldRun, world_from}
use Rattle.page_script.proofs.RunLemmas.{Leads-push}
use Rattle.partition.specs.Farm.{FarmLine, FarmRun, FarmStep, IsFarmRun, server_opening, EndsLine, OwnKeys, ServerTakes, server_of_line, text_of}
use Rattle.partition.specs.Shares.{EachFollows, homes_in, is_for, share}
use Rattle.partition.proofs.ShareLemmas.{EachFollows-push, homes_in-push, share-push}

text-cond : (b : Bool) (text front more : List ℕ)
    → cond b (text ++ (front ++ more)) (front ++ more) ≡ cond b (text ++ front) front ++ more
text-cond true text front more = sym (append_assoc text front more)
text-cond false text front more = refl

pub text_of-append : (server : ℕ) (some more : List FarmLine)
    → text_of server (some ++ more) ≡ text_of server some ++ text_of server more
text_of-append server [] more = refl
text_of-append server (line ∷ some) more =
    ap (λ t. cond (line.server == server) (line.text ++ t) t) (text_of-append server some more)
    ∙ text-cond (line.server == server) line.text (text_of server some) (text_of server more)

All-append : {X : Type 0} (P : X → Type 0) (xs ys : List X) → AllByRecursion P xs
    → AllByRecursion P ys → AllByRecursion P (xs ++ ys)
All-append P [] ys all more = more
All-append P (x ∷ xs) ys all more = (all.0, All-append P xs ys all.1 more)

-- the run of one server's share goes on by a line that is for it, or stays
share-goes_on : (b : Bool) (script : List Line) (line : Line) (world world' : World)
    (output text : List ℕ) → IsWorldRun server_opening script world output → ServerTakes b world line world' text
    → IsWorldRun server_opening (script ++ cond b (line ∷ []) []) world' (output ++ text)
share-goes_on true script line world world' output text run step =
    Leads-push (world_from server_opening) world world' script line output text run step
share-goes_on false script line world world' output text run step =
    subst (λ s. IsWorldRun server_opening s world' (output ++ text)) (sym (append-nil script))
    (subst (λ w. IsWorldRun server_opening script w (output ++ text)) (sym step.0)
    (subst (IsWorldRun server_opening script world) (sym (ap (λ t. output ++ t) step.1 ∙ append-nil output)) run))

pub IsFarmRun-push : (n : ℕ) (run run' : FarmRun) (line : Line) (printed : List FarmLine)
    → IsFarmRun n run → FarmStep n run line run' printed
    → map server_of_line printed ≡ homes_in n (run.script ++ line ∷ []) (line ∷ [])
    → AllByRecursion (λ (l : FarmLine). EndsLine l.text) printed
    → ((server : ℕ) → server < n → OwnKeys n server (run'.worlds server).turns)
    → IsFarmRun n run'
IsFarmRun-push n run run' line printed is step order ends own = record {
  follow = subst (λ s. EachFollows n [] s) (sym step.script)
      (EachFollows-push n [] run.script line is.follow step.follows);
  shares = λ server below. (
      subst (λ out. IsWorldRun server_opening (share n run'.script server) (run'.worlds server) out)
      (sym (ap (text_of server) step.behind ∙ text_of-append server run.printed printed))
      (subst (λ sh. IsWorldRun server_opening sh (run'.worlds server)
      (text_of server run.printed ++ text_of server printed))
      (sym (ap (λ s. share n s server) step.script ∙ share-push n run.script line server is.follow))
      (share-goes_on (is_for n (run.script ++ line ∷ []) server line)
      (share n run.script server) line (run.worlds server) (run'.worlds server)
      (text_of server run.printed) (text_of server printed) (is.shares server below)
      (subst (λ s. ServerTakes (is_for n s server line) (run.worlds server) line
      (run'.worlds server) (text_of server printed)) step.script (step.each server below))))
      );
  order =
      ap (map server_of_line) step.behind ∙ map-append server_of_line run.printed printed
      ∙ ap (λ homes. homes ++ map server_of_line printed) is.order
      ∙ ap (λ homes. homes_in n run.script run.script ++ homes) order
      ∙ sym (homes_in-push n run.script line is.follow)
      ∙ ap (λ s. homes_in n s s) (sym step.script);
  ends = subst (AllByRecursion (λ (l : FarmLine). EndsLine l.text)) (sym step.behind)
      (All-append (λ (l : FarmLine). EndsLine l.text) run.printed printed is.ends ends);
  own = own;
}
