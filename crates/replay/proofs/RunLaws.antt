-- Laws of `specs/Run.antt`: bytes after bytes, and the end of the input after them. Assumes nothing.
use Prim.Native.Nat.{ℕ}
use native.Mathlib.Omega.{arith}
use mathlib.Core.Path.{◌≡◌, refl, sym, ap, ◌∙◌, subst}
use mathlib.Core.List.{List, [], ◌++◌, append-nil}
use lib.ListN.{length, take, drop, drop_of_length-le}
use borrow.Author.Tests.{le-ltb}
use Rattle.outcome.specs.Lent.{over}
use Rattle.proxy_record.specs.State.{fresh_proxy}
use Rattle.proxy_record.specs.Words.{proxy_size, proxy_words}
use Rattle.proxy_record.proofs.RulesLaws.{ok_fresh, good_of}
use Rattle.writer_proxy.specs.SetUp.{set_up_proxy}
use Rattle.replay_lines.specs.Feed.{Feeding, fed_through, said_through, lacking, FedWith}
use Rattle.replay_lines.proofs.FeedLaws.{fed_append}
use Rattle.replay.specs.Run.{FedFront, FedSome, RanToEnd}

pub fed_more : (r s t : Feeding) → FedSome r s → FedSome s t → FedSome r t
fed_more r s t a b = (a.0 ++ b.0, b.1 ∙ ap (fed_through b.0) a.1 ∙ sym (fed_append a.0 b.0 r))

-- set-up on words that are a record and no more makes them a fresh one
pub fresh_words : (w u : List ℕ) → length w ≡ proxy_size → u ≡ (set_up_proxy w).words → u ≡ proxy_words fresh_proxy
unfolding set_up_proxy
fresh_words w u e p =
    let long : length (proxy_words fresh_proxy) ≡ proxy_size = (good_of (proxy_words fresh_proxy) fresh_proxy ok_fresh refl).whole in
    let rest : drop (length (proxy_words fresh_proxy)) w ≡ [] = drop_of_length-le w {i = length (proxy_words fresh_proxy)} (omega (arith, long, e)) in
    p ∙ rw (le-ltb (length w) proxy_size (omega (arith, e)), rest) (append-nil (proxy_words fresh_proxy))

pub ran_fresh : (w : List ℕ) (rest : List ℕ → Feeding) (after : Feeding) (out : List ℕ) → w ≡ proxy_words fresh_proxy → RanToEnd (rest w) after out
    → RanToEnd (rest (proxy_words fresh_proxy)) after out
ran_fresh w rest after out e = subst (λ (v : List ℕ). RanToEnd (rest v) after out) e

pub front_some : (input : List ℕ) (r s : Feeding) → FedFront input r s → FedSome r s
front_some input r s a = (take a.0 input, a.1)

pub ran_to_end : (r s after : Feeding) (wrote : ℕ) (out out' : List ℕ) → FedSome r s → FedWith wrote after out out' (lacking s) s → RanToEnd r after out'
ran_to_end r s after wrote out out' a w = record {
  input = a.0;
  before = out;
  fed_is = w.fed_is ∙ ap (λ (u : Feeding). fed_through (lacking u) u) a.1;
  out_is = w.out_is ∙ ap (λ (u : Feeding). over (said_through (lacking u) u) out) a.1;
}
