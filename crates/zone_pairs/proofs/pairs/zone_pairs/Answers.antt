use Rattle.zone_pairs.proofs.Common.{◌≡◌, ℕ, ◌<◌, ◌||◌, true, refl, sym, ap, ◌∙◌, arith, map, share_face, zone_pairs, pair_of}
use Rattle.std.proofs.lemmas.Result.{IfOk-weaker}
use Rattle.zone_pairs.proofs.{InOrder.has, InOrder.pairs_are, Joined.shared_small}
use Rattle.zone_pairs.proofs.pairs.zone_pairs.Goals as goal

pub returns : goal.returns
unfolding zone_pairs
returns c =
    let m = c.args.model.now in
    let zones = c.args.zones.now in
    let p = c.args.given.now.period in
    let keys = c.add_cells.new.keys.keys in
    let gained : (q : ℕ) → has keys q ≡ (has c.new-keys.result.keys q || share_face m zones p (pair_of q)) = λ q. c.in_ok-add_cells.ensures q in
    let same : (q : ℕ) → share_face m zones p (pair_of q) ≡ has keys q = λ q. sym (gained q ∙ ap (λ ks. has ks q || share_face m zones p (pair_of q)) c.new-keys.ensures.empty) in
    let small : (q : ℕ) → share_face m zones p (pair_of q) ≡ true → q < 1000000 = λ q h. let l = (shared_small m zones c.requires.zones.limits p (pair_of q) h).0 in omega (arith, l) in
    let all = pairs_are 1000 refl (share_face m zones p) keys c.pairs_of.ensures.ascend same small in
    IfOk-weaker c.pairs_of.result (λ v. v.items ≡ map pair_of keys) (λ v. v.items ≡ zone_pairs m zones p) (λ v e. e ∙ all) c.pairs_of.ensures.pairs
