use Rattle.std.proofs.Common.{rules, ◌≡◌, ◌<◌, Result, Ok, Err}
use Rattle.std.specs.Prelude.{is_ok, IsOk, if◌then◌else◌, vec_len, vec_capacity}
use Rattle.trie_model.proofs.Places.{elim-false}
use Rattle.trie_map.proofs.walk.push_level.Goals as goal

pushed : {T E L : Type 0} (r : Result T E) (n a b : L) → IsOk r → n ≡ (if is_ok r then a else b) → n ≡ a
pushed (Ok x) n a b h e = e
pushed (Err x) n a b h e = absurd (elim-false h)

pub returns-clause-items : goal.returns-clause-items
returns-clause-items g c =
    let room : vec_len c.args.levels.now < vec_capacity c.args.levels.now = search (rules, c.requires) in
    pushed c.push-pushed.result _ _ _ (c.push-pushed.ensures.succeeds room) c.push-pushed.ensures.items
