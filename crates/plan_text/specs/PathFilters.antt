-- Sets of paths by one bit for each path, and one for its ends.
use Rattle.std.specs.Prelude.{◌≡◌, ℕ, ◌+◌, ◌-◌, ◌*◌, ◌/◌, ◌%◌, ◌^◌, List, bit_and, bit_or, drop, fold, get_or, if◌then◌else◌, length, min, nat_le, slice_set, take}
use Rattle.std.specs.List.{All}
use Rattle.std.specs.Int.{w128, w64, from_be_bytes}

-- a path as a number of base 256: its last sixteen bytes, the first and the last eight bytes of a shorter path, or all bytes of a path of fewer than eight
unfoldable pub number_of : List ℕ → ℕ
number_of path = if nat_le 16 (length path) then from_be_bytes w128 (drop (length path - 16) path)
    else if nat_le 8 (length path) then from_be_bytes w64 (take 8 path) * 2 ^ 64 + from_be_bytes w64 (drop (length path - 8) path)
    else fold (λ n b. n % 2 ^ 120 * 256 + b) 0 path

-- the hash of a path: a sum of both halves of its number and of its length, each multiplied by a constant
unfoldable pub hash_of : List ℕ → ℕ
hash_of path = (number_of path / 2 ^ 64 * 5545529020109919103 + number_of path % 2 ^ 64 * 9782798678568883157 + length path * 1609587929392839161) % 2 ^ 64

-- the hash of the ends of a path: its first and its last byte, or 0 for an empty path. With 1,024 words, each pair of bytes has a bit of its own
unfoldable pub ends_of : List ℕ → ℕ
ends_of path = get_or path 0 0 * 2 ^ 56 + get_or path (length path - 1) 0 / 64 * 2 ^ 54 + get_or path (length path - 1) 0 % 64 * 2 ^ 32

-- the word in which a hash has its bit, by the number of words
unfoldable pub place_of : ℕ → ℕ → ℕ
place_of words hash = min (hash * words / 2 ^ 64) (words - 1)

-- a word that has only the bit of this hash
unfoldable pub bit_of : ℕ → ℕ
bit_of hash = 2 ^ (hash / 2 ^ 32 % 64)

-- the word in which a hash has its bit
abbrev pub word_of : List ℕ → ℕ → ℕ
word_of words hash = get_or words (place_of (length words) hash) 0

-- the bit of a hash is set
abbrev pub HasBit : List ℕ → ℕ → Type 0
HasBit words hash = bit_and (word_of words hash) (bit_of hash) ≡ bit_of hash

-- words in which the bit of this hash is set too
abbrev pub with_bit : List ℕ → ℕ → List ℕ
with_bit words hash = slice_set words (place_of (length words) hash) (bit_or (word_of words hash) (bit_of hash))

-- each path has its bit, by a hash of paths
abbrev pub HaveBits : (List ℕ → ℕ) → List ℕ → List (List ℕ) → Type 0
HaveBits hash words paths = All (λ path. HasBit words (hash path)) paths
