use Rattle.std.proofs.Common.{refl}
use Rattle.capture_file.specs.Programs.{base_field, based_field, chunk_count_field, chunks_field, fill_field, form_field, long_chunk_field}
use Rattle.capture_file.specs.Programs.{page_field, program_in, word_count_field, words_field}
use Rattle.capture_file.specs.Programs.{entry_field, span_address_field, span_field, span_length_field, span_number_field, spanned_field}
use Rattle.capture_file.specs.Programs.{spans_field}
use Rattle.file_law.proofs.programs.worked_files_are_at_fault.Goals as goal

pub returns-clause-magic : goal.returns-clause-magic
unfolding program_in form_field based_field base_field word_count_field words_field chunk_count_field chunks_field page_field
    long_chunk_field fill_field
returns-clause-magic c = refl

pub returns-clause-base : goal.returns-clause-base
unfolding program_in form_field based_field base_field word_count_field words_field chunk_count_field chunks_field page_field
    long_chunk_field fill_field
returns-clause-base c = refl

pub returns-clause-words : goal.returns-clause-words
unfolding program_in form_field based_field base_field word_count_field words_field chunk_count_field chunks_field page_field
    long_chunk_field fill_field
returns-clause-words c = refl

pub returns-clause-pages : goal.returns-clause-pages
unfolding program_in form_field based_field base_field word_count_field words_field chunk_count_field chunks_field page_field
    long_chunk_field fill_field
returns-clause-pages c = refl

pub returns-clause-page : goal.returns-clause-page
unfolding program_in form_field based_field base_field word_count_field words_field chunk_count_field chunks_field page_field
    long_chunk_field fill_field
returns-clause-page c = refl

pub returns-clause-overlap : goal.returns-clause-overlap
unfolding program_in form_field based_field base_field word_count_field words_field chunk_count_field chunks_field page_field
    long_chunk_field fill_field
returns-clause-overlap c = refl

pub returns-clause-order : goal.returns-clause-order
unfolding program_in form_field based_field base_field word_count_field words_field chunk_count_field chunks_field page_field
    long_chunk_field fill_field
returns-clause-order c = refl

pub returns-clause-after_end : goal.returns-clause-after_end
unfolding program_in form_field based_field base_field word_count_field words_field chunk_count_field chunks_field page_field
    long_chunk_field fill_field
returns-clause-after_end c = refl

pub returns-clause-short : goal.returns-clause-short
unfolding program_in form_field based_field base_field word_count_field words_field chunk_count_field chunks_field page_field
    long_chunk_field fill_field
returns-clause-short c = refl

pub returns-clause-chunk_length : goal.returns-clause-chunk_length
unfolding program_in form_field based_field base_field word_count_field words_field chunk_count_field chunks_field page_field
    long_chunk_field fill_field
returns-clause-chunk_length c = refl

pub returns-clause-all_pages : goal.returns-clause-all_pages
unfolding program_in form_field based_field base_field word_count_field words_field chunk_count_field chunks_field page_field
    long_chunk_field fill_field
returns-clause-all_pages c = refl

pub returns-clause-no_span : goal.returns-clause-no_span
unfolding program_in form_field spanned_field span_number_field spans_field span_field span_address_field span_length_field words_field
    entry_field chunk_count_field chunks_field fill_field
returns-clause-no_span c = refl

pub returns-clause-no_word : goal.returns-clause-no_word
unfolding program_in form_field spanned_field span_number_field spans_field span_field span_address_field span_length_field words_field
    entry_field chunk_count_field chunks_field fill_field
returns-clause-no_word c = refl

pub returns-clause-span_base : goal.returns-clause-span_base
unfolding program_in form_field spanned_field span_number_field spans_field span_field span_address_field span_length_field words_field
    entry_field chunk_count_field chunks_field fill_field
returns-clause-span_base c = refl

pub returns-clause-touching : goal.returns-clause-touching
unfolding program_in form_field spanned_field span_number_field spans_field span_field span_address_field span_length_field words_field
    entry_field chunk_count_field chunks_field fill_field
returns-clause-touching c = refl

pub returns-clause-no_entry : goal.returns-clause-no_entry
unfolding program_in form_field spanned_field span_number_field spans_field span_field span_address_field span_length_field words_field
    entry_field chunk_count_field chunks_field fill_field
returns-clause-no_entry c = refl

pub returns-clause-outside : goal.returns-clause-outside
unfolding program_in form_field spanned_field span_number_field spans_field span_field span_address_field span_length_field words_field
    entry_field chunk_count_field chunks_field fill_field
returns-clause-outside c = refl

pub returns-clause-of_before : goal.returns-clause-of_before
unfolding program_in form_field spanned_field span_number_field spans_field span_field span_address_field span_length_field words_field
    entry_field chunk_count_field chunks_field fill_field
returns-clause-of_before c = refl

pub returns-clause-spans_whole : goal.returns-clause-spans_whole
unfolding program_in form_field spanned_field span_number_field spans_field span_field span_address_field span_length_field words_field
    entry_field chunk_count_field chunks_field fill_field
returns-clause-spans_whole c = (refl, refl)
