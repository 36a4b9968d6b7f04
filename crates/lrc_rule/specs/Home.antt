-- Where the row of a content is sought.
use Rattle.std.specs.Prelude.{ℕ, ◌+◌, ◌*◌, ◌/◌, ◌%◌, ◌^◌, bit_xor}
use Rattle.lrc_rule.specs.declared.layout.Content.{Content}
use Rattle.lrc_rule.specs.declared.layout.Layout.{Layout}

-- three words, mixed, among so many buckets
unfoldable pub home_of : ℕ → ℕ → ℕ → ℕ → ℕ
home_of tag left right buckets =
    let p = (tag * 11400714819323198485 % 2 ^ 64 + left) % 2 ^ 64 in
    let q = (bit_xor p (p / 2 ^ 29) * 13787848793156543929 % 2 ^ 64 + right) % 2 ^ 64 in
    bit_xor q (q / 2 ^ 32) % buckets

-- the place that comes so many after the home of a content, and from the last bucket to the first
abbrev pub place_on : Layout → Content → ℕ → ℕ
place_on l c steps = (home_of c.tag c.left c.right l.buckets + steps) % l.buckets
