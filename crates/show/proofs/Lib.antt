mod Spelling
