-- Document 01, "Sizes of a wall" and "Worked values", in their order, then walls that tell thresholds apart, and postings. Each is shown by
-- computing with the definitions.
use Rattle.std.specs.Prelude.{◌≡◌, refl, [], ◌∷◌, ◌++◌, ℕ}
use Rattle.lists.specs.Lists.{count, sum, all, list_of, rows_of}
use Rattle.field.specs.Field.{add, multiply, inverse, inverse_below}
use Rattle.block.specs.Block.{part, value}
use Rattle.protocols.specs.declared.Protocol.TheVariants.{Agreement, Posting}
use Rattle.sizes.specs.Sizes.{faults, degree, blocks, refusal, outside}
use Rattle.protocols.specs.Protocols.{width, phase, phases_from, kinds, rounds_in, kind_in, values_in, line_in, beside, posts}
use Rattle.messages.specs.Messages.{read_point, read_report, read_bit, read_byte, said, from, word as word_at, refusal as refusal_of_length, unless_refused, heard, heard_from, heard_of_all, times}
use Rattle.codeword.specs.Codeword.{point, values as values_at}
use Rattle.decoder.specs.Decoder.{decoded, found, seek, through, under, slopes, answer_of, polynomial_of, coefficients}
use Rattle.decoder.specs.Decoder.{Polynomial, Nothing}
use Rattle.king.specs.King.{bits, chosen, proposal, settled, firm, word, crowned}
use Rattle.dispersal.specs.Dispersal.{exchange, agrees_in, agrees_with, agreement_at, agreements, agrees, first_quorum, first_report, report_at, reports, reported, both, second_quorum, second_report, read_reports, grade}
use Rattle.dissemination.specs.Dissemination.{spoken, points_in, points, least, often, kept_point, kept_at, kept_points, point_at, block_of, there, coefficient, is_byte, is_block, byte_at, record_of}
use Rattle.agreement.specs.Column.{fresh_vote, brought, fresh_column, names_fit, stage_fits, byte_fits, flag_fits, point_fits, numbers_fit, arrays_fit, fits}
use Rattle.agreement.specs.Post.{posted_by, sent_byte, posted_byte, taken_record, posted}
use Rattle.agreement.specs.Rounds.{vote_in, vote_after, listens, votes_one, spreads, message, outgoing, received, king_said, graded, first_vote, resettled, outcome_of, ends_on, hears}
use Rattle.agreement.specs.Calls.{answer_of as answer_to, answered, or_else, fresh_refusal, fresh, no_column, round_of, when_speaking, when_listening, when_asked, in_state, in_round, speak_refusal, speak, written, listen_refusal, listen, outcome_refusal, ending, reply_of, shown, grade_in, grade_shown, outcome}
use Rattle.agreement.specs.Entries.{ends_on_record, mark_only, entry_asked, sound_entry}
use Rattle.sheet.specs.Sheet.{columns, bytes, mark, sound, unsound, unsound_to, record_place, record_of as record_in, arrays, line_value, whole, mark_fits, in_order, refusal_of_marks, refusal as refusal_of_sheet}
use Rattle.delivery.specs.Delivery.{mailed, lied, sent, inbox}
use Rattle.wall_run.specs.Run.{column_at, turned, each, made, start, round_at, blanks, spoken as spoke, words, words_of, mail, heard as heard_by, played, after, ended, entry_of, entry_in, refusal as refusal_of_run, in_places, settled as ran, refused, outcomes}
use Rattle.listing.specs.Listing.{ascii, joined, digit, decimal, named, hex_digit, hex, hex_at, hexes, sizes_line, record_text, sound_line, unsound_line, column_line, line_at, column_lines, refused_line, listing, listing_of}
use Rattle.worked.specs.Walls.{sheet, alike, apart, six, ten, firm as firm_wall, lying_king, poster, camps, silence, favour}

-- t and d of n columns
abbrev Gives : ℕ → ℕ → ℕ → Type 0
Gives n t d = (faults n ≡ t) × (degree n ≡ d)

pub record Worked : Type 0 where
  -- "4 and 6 give (1, 0); 7 and 9 give (2, 0); 10 gives (3, 1); 19 gives (6, 2); 28 gives (9, 3); 31 gives (10, 3)"
  pub sizes_of_4 : Gives 4 1 0
  pub sizes_of_6 : Gives 6 1 0
  pub sizes_of_7 : Gives 7 2 0
  pub sizes_of_9 : Gives 9 2 0
  pub sizes_of_10 : Gives 10 3 1
  pub sizes_of_19 : Gives 19 6 2
  pub sizes_of_28 : Gives 28 9 3
  pub sizes_of_31 : Gives 31 10 3
  -- "3 and 32 columns: refusal 1. m = 0 and 33: refusal 2."
  pub columns_3 : refusal 3 1 1 ≡ 1
  pub columns_32 : refusal 32 1 1 ≡ 1
  pub bytes_0 : refusal 4 0 1 ≡ 2
  pub bytes_33 : refusal 4 33 1 ≡ 2
  -- "200 + 100 times 9 leaves 72": the field's sum and product, and the value of the block 200, 100 at the point 9
  pub sum_72 : add 200 (multiply 100 9) ≡ 72
  pub value_72 : value (200 ∷ 100 ∷ []) 9 ≡ 72
  -- "Inverses: 2 has 129, 3 has 86, 256 has 256."
  pub inverse_of_2 : inverse 2 ≡ 129
  pub inverse_of_3 : inverse 3 ≡ 86
  pub inverse_of_256 : inverse 256 ≡ 256
  -- "n = 10, points 5, 8, 11, 14, 17, 20, 23, 26, 29, 32: 2 + 3 times the point; still so with the first three blank; none with the
  -- first four blank"
  pub ten_points : decoded 10 (5 ∷ 8 ∷ 11 ∷ 14 ∷ 17 ∷ 20 ∷ 23 ∷ 26 ∷ 29 ∷ 32 ∷ []) ≡ Polynomial (coefficients (2 ∷ 3 ∷ []))
  pub three_blank : decoded 10 (65535 ∷ 65535 ∷ 65535 ∷ 14 ∷ 17 ∷ 20 ∷ 23 ∷ 26 ∷ 29 ∷ 32 ∷ []) ≡ Polynomial (coefficients (2 ∷ 3 ∷ []))
  pub four_blank : decoded 10 (65535 ∷ 65535 ∷ 65535 ∷ 65535 ∷ 17 ∷ 20 ∷ 23 ∷ 26 ∷ 29 ∷ 32 ∷ []) ≡ Nothing
  -- "The sheet above.": its listing, to the byte
  pub the_sheet : listing_of Agreement sheet
      ≡ ascii "wall 4 1 t 1 d 0 blocks 1 rounds 11\n"
      ++ ascii "1 sound grade 2 bit 1 record 41\n"
      ++ ascii "2 sound grade 1 bit 1 record 41\n"
      ++ ascii "3 sound grade 0 bit 1 record 41\n"
      ++ ascii "4 unsound\n"
  -- "Records 41 41 41, column 4 blank: all grade 2, record 41. Records 41 41 42, column 4 blank: grades 0, none."
  pub records_alike : listing_of Agreement alike
      ≡ ascii "wall 4 1 t 1 d 0 blocks 1 rounds 11\n"
      ++ ascii "1 sound grade 2 bit 1 record 41\n"
      ++ ascii "2 sound grade 2 bit 1 record 41\n"
      ++ ascii "3 sound grade 2 bit 1 record 41\n"
      ++ ascii "4 unsound\n"
  pub records_apart : listing_of Agreement apart
      ≡ ascii "wall 4 1 t 1 d 0 blocks 1 rounds 11\n"
      ++ ascii "1 sound grade 0 bit 0 record none\n"
      ++ ascii "2 sound grade 0 bit 0 record none\n"
      ++ ascii "3 sound grade 0 bit 0 record none\n"
      ++ ascii "4 unsound\n"
  -- "A sheet shorter than 2 bytes gives 4 first of all"; 1, 2, 5 and 6 before the sheet's full length
  pub no_byte : listing_of Agreement [] ≡ ascii "refused 4\n"
  pub too_few_columns : listing_of Agreement (3 ∷ 0 ∷ []) ≡ ascii "refused 1\n"
  pub no_record : listing_of Agreement (4 ∷ 0 ∷ []) ≡ ascii "refused 2\n"
  pub arrays_short : listing_of Agreement (4 ∷ 1 ∷ 2 ∷ 0 ∷ 0 ∷ 0 ∷ 1 ∷ 1 ∷ 1 ∷ []) ≡ ascii "refused 4\n"
  pub no_such_mark : listing_of Agreement (4 ∷ 1 ∷ 1 ∷ 1 ∷ 1 ∷ 2 ∷ 1 ∷ 1 ∷ 1 ∷ 1 ∷ []) ≡ ascii "refused 5\n"
  pub too_many_unsound : listing_of Agreement (4 ∷ 1 ∷ 1 ∷ 1 ∷ 0 ∷ 0 ∷ 1 ∷ 1 ∷ 1 ∷ 1 ∷ []) ≡ ascii "refused 6\n"
  pub lines_missing : listing_of Agreement (4 ∷ 1 ∷ 0 ∷ 1 ∷ 0 ∷ 0 ∷ 1 ∷ 1 ∷ 1 ∷ 1 ∷ []) ≡ ascii "refused 4\n"
  -- n - t is 5 and 2t + 1 is 3: three second reports give grade 2
  pub six_columns : listing_of Agreement six
      ≡ ascii "wall 6 1 t 1 d 0 blocks 1 rounds 11\n"
      ++ ascii "1 sound grade 2 bit 1 record 41\n"
      ++ ascii "2 sound grade 2 bit 1 record 41\n"
      ++ ascii "3 sound grade 2 bit 1 record 41\n"
      ++ ascii "4 sound grade 0 bit 1 record 41\n"
      ++ ascii "5 sound grade 0 bit 1 record 41\n"
      ++ ascii "6 unsound\n"
  -- d = 1: a wrong point a block in the last round is corrected
  pub ten_columns : listing_of Agreement ten
      ≡ ascii "wall 10 3 t 3 d 1 blocks 2 rounds 17\n"
      ++ ascii "1 sound grade 2 bit 1 record ff0141\n"
      ++ ascii "2 unsound\n"
      ++ ascii "3 sound grade 2 bit 1 record ff0141\n"
      ++ ascii "4 sound grade 2 bit 1 record ff0141\n"
      ++ ascii "5 sound grade 2 bit 1 record ff0141\n"
      ++ ascii "6 sound grade 2 bit 1 record ff0141\n"
      ++ ascii "7 sound grade 2 bit 1 record ff0141\n"
      ++ ascii "8 sound grade 2 bit 1 record ff0141\n"
      ++ ascii "9 sound grade 2 bit 1 record ff0141\n"
      ++ ascii "10 sound grade 2 bit 1 record ff0141\n"
  -- a firm vote stands against a lying king
  pub firm_votes : listing_of Agreement firm_wall
      ≡ ascii "wall 4 1 t 1 d 0 blocks 1 rounds 11\n"
      ++ ascii "1 sound grade 2 bit 1 record 41\n"
      ++ ascii "2 unsound\n"
      ++ ascii "3 sound grade 2 bit 1 record 41\n"
      ++ ascii "4 sound grade 2 bit 1 record 41\n"
  -- after the phase of a king that lies the votes differ: of columns 2 and 3 it is 1, of column 4 it is 0
  pub king_lies : refusal_of_run Agreement lying_king 4 ≡ 0
  pub votes_differ : ((column_at (after Agreement lying_king 6) 2).vote ≡ 1) × ((column_at (after Agreement lying_king 6) 3).vote ≡ 1) × ((column_at (after Agreement lying_king 6) 4).vote ≡ 0)
  -- POSTINGS. A sound poster: everyone its record at grade 2, and the other records of the sheet are not read
  pub sound_poster : listing_of (Posting 1) poster
      ≡ ascii "wall 4 1 t 1 d 0 blocks 1 rounds 6\n"
      ++ ascii "1 sound grade 2 bit 1 record 41\n"
      ++ ascii "2 sound grade 2 bit 1 record 41\n"
      ++ ascii "3 sound grade 2 bit 1 record 41\n"
      ++ ascii "4 unsound\n"
  -- one sound grade 2 with a record binds all to it at grade 1 or 2
  pub two_camps : listing_of (Posting 4) camps
      ≡ ascii "wall 4 1 t 1 d 0 blocks 1 rounds 6\n"
      ++ ascii "1 sound grade 2 bit 1 record 41\n"
      ++ ascii "2 sound grade 1 bit 1 record 41\n"
      ++ ascii "3 sound grade 1 bit 1 record 41\n"
      ++ ascii "4 unsound\n"
  -- "A receiver that finds a value outside 0 to 255 takes a record of m zeros."
  pub silent_poster : listing_of (Posting 4) silence
      ≡ ascii "wall 4 1 t 1 d 0 blocks 1 rounds 6\n"
      ++ ascii "1 sound grade 2 bit 1 record 00\n"
      ++ ascii "2 sound grade 2 bit 1 record 00\n"
      ++ ascii "3 sound grade 2 bit 1 record 00\n"
      ++ ascii "4 unsound\n"
  -- "else grade 1 if decoding gave a record; else none at grade 0"
  pub one_alone : listing_of (Posting 4) favour
      ≡ ascii "wall 4 1 t 1 d 0 blocks 1 rounds 6\n"
      ++ ascii "1 sound grade 1 bit 1 record 41\n"
      ++ ascii "2 sound grade 0 bit 1 record none\n"
      ++ ascii "3 sound grade 0 bit 1 record none\n"
      ++ ascii "4 unsound\n"
  -- 3 between 2 and 4
  pub no_such_poster : listing_of (Posting 5) (4 ∷ 1 ∷ []) ≡ ascii "refused 3\n"
  pub bytes_before_poster : listing_of (Posting 0) (4 ∷ 0 ∷ []) ≡ ascii "refused 2\n"

pub worked : Worked
unfolding rounds_in values_in line_in beside read_byte names_fit kind_in vote_in vote_after posted_by sent_byte posted_byte taken_record posted listens or_else grade_in grade_shown count sum all list_of rows_of inverse inverse_below part value faults degree blocks refusal outside read_point read_report read_bit said from refusal_of_length unless_refused heard heard_from heard_of_all times point values_at decoded found seek through under slopes answer_of polynomial_of bits chosen proposal settled firm word crowned exchange agrees_in agrees_with agreement_at agreements agrees first_quorum first_report report_at reports reported both second_quorum second_report read_reports grade spoken points_in points least often kept_point kept_at kept_points point_at block_of there coefficient is_byte is_block byte_at record_of fresh_column stage_fits byte_fits flag_fits point_fits numbers_fit arrays_fit fits votes_one spreads message outgoing received king_said graded first_vote resettled outcome_of ends_on hears answer_to answered fresh_refusal fresh no_column round_of when_speaking when_listening when_asked in_state in_round speak_refusal speak written listen_refusal listen outcome_refusal ending reply_of shown outcome columns bytes mark sound unsound unsound_to record_place record_in arrays word_at line_value whole mark_fits in_order refusal_of_marks refusal_of_sheet mailed lied sent inbox column_at turned each made start round_at blanks spoke words words_of mail heard_by played after ended ends_on_record mark_only entry_asked sound_entry entry_of entry_in refusal_of_run in_places ran refused outcomes ascii joined digit decimal named hex_digit hex hex_at hexes sizes_line record_text sound_line unsound_line column_line line_at column_lines refused_line listing listing_of width phase phases_from kinds fresh_vote brought posts
worked =
    record {
      sizes_of_4 = (refl, refl);
      sizes_of_6 = (refl, refl);
      sizes_of_7 = (refl, refl);
      sizes_of_9 = (refl, refl);
      sizes_of_10 = (refl, refl);
      sizes_of_19 = (refl, refl);
      sizes_of_28 = (refl, refl);
      sizes_of_31 = (refl, refl);
      columns_3 = refl;
      columns_32 = refl;
      bytes_0 = refl;
      bytes_33 = refl;
      sum_72 = refl;
      value_72 = refl;
      inverse_of_2 = refl;
      inverse_of_3 = refl;
      inverse_of_256 = refl;
      ten_points = refl;
      three_blank = refl;
      four_blank = refl;
      the_sheet = refl;
      records_alike = refl;
      records_apart = refl;
      no_byte = refl;
      too_few_columns = refl;
      no_record = refl;
      arrays_short = refl;
      no_such_mark = refl;
      too_many_unsound = refl;
      lines_missing = refl;
      six_columns = refl;
      ten_columns = refl;
      firm_votes = refl;
      king_lies = refl;
      votes_differ = (refl, refl, refl);
      sound_poster = refl;
      two_camps = refl;
      silent_poster = refl;
      one_alone = refl;
      no_such_poster = refl;
      bytes_before_poster = refl;
    }
